-- Laws of checks: what a check that refused, or passed, says of its test.
use mathlib.Core.Path.{◌≡◌, refl, sym, ap, ap₂, ◌∙◌}
use mathlib.Core.Bool.{Bool, true, false}
use Prim.Native.Nat.{ℕ, zero, suc, ◌+◌, ◌-◌, ◌≤◌, ◌<◌}
use native.Mathlib.Nat.{add-zero, not-suc-le-zero, le_of_suc-le-suc}
use native.Mathlib.Omega.{arith}
use mathlib.Core.List.{List}
use Rattle.std.specs.Prelude.{Result, Ok, Err}
use Rattle.refusal.specs.declared.Refusal.{Refusal}
use Rattle.refusal.specs.Number.{number_of}
use Rattle.refusal.specs.Check.{Check, silent, refused, refused_if, first, first_from, check_of}
use Rattle.refusal.specs.Outcome.{Outcome, answered, refusal, after, outcome_by}

pub never : {number place : ℕ} → refused number place ≡ silent → ⊥
never e = let z : ◌≡◌ {A = ℕ} 0 1 = cc in omega arith

-- a silent sequence is silent in both parts
pub first-left : (k later : Check) → first k later ≡ silent → k ≡ silent
unfolding first
first-left silent later e = refl
first-left (refused number place) later e = e

pub first-right : (k later : Check) → first k later ≡ silent → later ≡ silent
unfolding first
first-right silent later e = e
first-right (refused number place) later e = absurd (never e)

pub silent-test : (test : Bool) (number place : ℕ) → refused_if test number place ≡ silent → test ≡ false
unfolding refused_if
silent-test true number place e = absurd (never e)
silent-test false number place e = refl

pub refused-test : (test : Bool) (number place n p : ℕ) → refused_if test number place ≡ refused n p → test ≡ true
unfolding refused_if
refused-test true number place n p e = refl
refused-test false number place n p e = absurd (let z : ◌≡◌ {A = ℕ} 0 1 = cc in omega arith)

-- a check that its test decides
pub said : {k : Check} {test : Bool} {number place : ℕ} → k ≡ refused_if test number place → test ≡ true → k ≡ refused number place
unfolding refused_if
said {number = number} {place = place} p e = p ∙ ap (λ t. refused_if t number place) e

pub quiet : {k : Check} {test : Bool} (number place : ℕ) → k ≡ refused_if test number place → test ≡ false → k ≡ silent
unfolding refused_if
quiet number place p e = p ∙ ap (λ t. refused_if t number place) e

-- a sequence, once its first check refused or passed
pub first_said : {k : Check} (later : Check) {number place : ℕ} → k ≡ refused number place → first k later ≡ refused number place
unfolding first
first_said later e = ap (λ k. first k later) e

pub first-quiet : {k : Check} (later : Check) → k ≡ silent → first k later ≡ later
unfolding first
first-quiet later e = ap (λ k. first k later) e

pub skip : {k later r : Check} → k ≡ silent → later ≡ r → first k later ≡ r
skip {later = later} e p = first-quiet later e ∙ p

pub first-assoc : (a b c : Check) → first (first a b) c ≡ first a (first b c)
unfolding first
first-assoc silent b c = refl
first-assoc (refused number place) b c = refl

-- the first of numbered checks that refuses: one more, and the end
pub from-said : (check : ℕ → Check) (i n : ℕ) {number place : ℕ} → 0 < n → check i ≡ refused number place → first_from check i n ≡ refused number place
unfolding first_from
from-said check i zero h e = absurd (not-suc-le-zero h)
from-said check i (suc n) h e = first_said (first_from check (suc i) n) e

pub from-quiet : (check : ℕ → Check) (i n : ℕ) → 0 < n → check i ≡ silent → first_from check i n ≡ first_from check (i + 1) (n - 1)
unfolding first_from
from-quiet check i zero h e = absurd (not-suc-le-zero h)
from-quiet check i (suc n) h e =
    let one : suc i ≡ i + 1 = omega arith in
    let left : n ≡ suc n - 1 = omega arith in
    first-quiet (first_from check (suc i) n) e ∙ ap₂ (first_from check) one left

pub from-none : (check : ℕ → Check) (i : ℕ) → first_from check i 0 ≡ silent
unfolding first_from
from-none check i = refl

-- the same of the checks from i up to n, as a loop goes through them
module _ (check : ℕ → Check) (i n : ℕ) where
  pub upto-said : {number place : ℕ} → i < n → check i ≡ refused number place → first_from check i (n - i) ≡ refused number place
  upto-said h e = from-said check i (n - i) (omega arith) e

  pub upto-quiet : i < n → check i ≡ silent → first_from check i (n - i) ≡ first_from check (i + 1) (n - (i + 1))
  upto-quiet h e =
      let left : n - i - 1 ≡ n - (i + 1) = omega arith in
      from-quiet check i (n - i) (omega arith) e ∙ ap (first_from check (i + 1)) left

  pub upto-end : n ≤ i → first_from check i (n - i) ≡ silent
  upto-end h =
      let none : n - i ≡ 0 = omega arith in
      ap (first_from check i) none ∙ from-none check i

-- where no check refuses, each is silent
pub from_each : (check : ℕ → Check) (i n : ℕ) → first_from check i n ≡ silent → (j : ℕ) → j < n → check (i + j) ≡ silent
unfolding first_from
from_each check i zero e j h = absurd (not-suc-le-zero h)
from_each check i (suc n) e zero h = rw add-zero (first-left (check i) (first_from check (suc i) n) e)
from_each check i (suc n) e (suc j) h =
    let shift : i + suc j ≡ suc i + j = omega arith in
    rw shift (from_each check (suc i) n (first-right (check i) (first_from check (suc i) n) e) j (le_of_suc-le-suc h))

-- and where each is silent, none refuses
pub from-silent : (check : ℕ → Check) (i n : ℕ) → ((j : ℕ) → i ≤ j → j < i + n → check j ≡ silent) → first_from check i n ≡ silent
unfolding first_from
from-silent check i zero h = refl
from-silent check i (suc n) h =
    skip (h i (omega arith) (omega arith)) (from-silent check (suc i) n (λ j a b. h j (omega arith) (omega arith)))

-- a result that is handed on
pub refused-is : {T : Type 0} (v : Result T Refusal) (k : Check) {r : Refusal} → check_of v ≡ k → v ≡ Err r → k ≡ refused (number_of r.reason) r.place
refused-is v k e g = sym e ∙ ap check_of g

pub passed_is : {T : Type 0} (v : Result T Refusal) (k : Check) {x : T} → check_of v ≡ k → v ≡ Ok x → k ≡ silent
passed_is v k e g = sym e ∙ ap check_of g

-- what is told after a check
pub after-said : {k : Check} (o : Outcome) {number place : ℕ} → k ≡ refused number place → after k o ≡ refusal number place
unfolding after
after-said o e = ap (λ k. after k o) e

pub after-quiet : {k : Check} (o : Outcome) → k ≡ silent → after k o ≡ o
unfolding after
after-quiet o e = ap (λ k. after k o) e

-- an answer is told after a silent check alone
pub answered-after : (k : Check) (values others : List ℕ) → answered values ≡ after k (answered others) → (k ≡ silent) × (values ≡ others)
unfolding after
answered-after silent values others e = (refl, (cc))
answered-after (refused number place) values others e = absurd (let z : ◌≡◌ {A = ℕ} 0 1 = cc in omega arith)

pub refusal-after : (k : Check) (n p : ℕ) (values : List ℕ) → refusal n p ≡ after k (answered values) → k ≡ refused n p
unfolding after
refusal-after silent n p values e = absurd (let z : ◌≡◌ {A = ℕ} 0 1 = cc in omega arith)
refusal-after (refused number place) n p values e =
    let a : number ≡ n = cc in
    let b : place ≡ p = cc in
    ap₂ refused a b

-- an answer that is told after a check: the check is silent, and the answer has its values
pub told-answer : {T : Type 0} (values : T → List ℕ) (k : Check) (others : List ℕ) (v : Result T Refusal) {x : T}
    → outcome_by values v ≡ after k (answered others) → v ≡ Ok x → (k ≡ silent) × (values x ≡ others)
told-answer values k others v {x} e g = answered-after k (values x) others (sym (ap (outcome_by values) g) ∙ e)

-- a refusal that is told after a check is that of the check
pub told-refusal : {T : Type 0} (values : T → List ℕ) (k : Check) (others : List ℕ) (v : Result T Refusal) {r : Refusal}
    → outcome_by values v ≡ after k (answered others) → v ≡ Err r → k ≡ refused (number_of r.reason) r.place
told-refusal values k others v {r} e g = refusal-after k (number_of r.reason) r.place others (sym (ap (outcome_by values) g) ∙ e)

-- a refusal that is told after a check stands, whatever is checked after it
pub refusal_first : (k later : Check) (values others : List ℕ) {number place : ℕ} → refusal number place ≡ after k (answered values)
    → refusal number place ≡ after (first k later) (answered others)
unfolding first after
refusal_first silent later values others e = absurd (let z : ◌≡◌ {A = ℕ} 0 1 = cc in omega arith)
refusal_first (refused number place) later values others e = e
