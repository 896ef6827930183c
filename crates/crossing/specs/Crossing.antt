-- How an answer crosses to C, as a result and eight words: rules S1 to S5, R16 and R23.
use Rattle.std.specs.Prelude.{◌≡◌, Bool, cond, List, [], ◌∷◌, ◌++◌, ℕ, take, replicate, Result, Ok, Err, Option, Some, None}
use Rattle.refusal.specs.declared.Refusal.{Refusal}
use Rattle.refusal.specs.Number.{number_of}
use Rattle.refusal.specs.Check.{Check, silent, refused}
use Rattle.refusal.specs.Outcome.{Outcome, answered, absent, refusal, after}

-- 0 answered, 1 absent, 2 refused (rule S2).
unfoldable pub result : Outcome → ℕ
result (answered values) = 0
result (absent values) = 1
result (refusal number place) = 2

-- The values (rule S5), or a refusal's number, its place and the number beside it (rule S3); the other words are 0 (rule S1).
unfoldable pub answer_words : (beside : ℕ) → Outcome → List ℕ
answer_words beside (answered values) = take 8 (values ++ replicate 8 0)
answer_words beside (absent values) = take 8 (values ++ replicate 8 0)
answer_words beside (refusal number place) = number ∷ place ∷ beside ∷ replicate 5 0

-- Result and words are those of this outcome, with this number beside a refusal: the link of a chain.
pub record CrossesBeside (beside : ℕ) (outcome : Outcome) (told : ℕ) (words : List ℕ) : Type 0 where
  pub result_is : told ≡ result outcome
  pub words_are : words ≡ answer_words beside outcome

-- No number stands beside a refusal outside a chain.
abbrev pub Crosses : Outcome → ℕ → List ℕ → Type 0
Crosses = CrossesBeside 0

-- A check that has no values to give.
abbrev pub verdict_outcome : Check → Outcome
verdict_outcome check = after check (answered [])

-- A test that has no values to give: answered where it holds, else absent.
abbrev pub test_outcome : Bool → Outcome
test_outcome test = cond test (answered []) (absent [])

-- What is lent after a check: the new value where it passes; a refusal leaves it (rule S4).
unfoldable pub lent_after : {A : Type 0} → Check → (new lent : A) → A
lent_after silent new lent = new
lent_after (refused number place) new lent = lent

-- What is lent after an answer that replaces it; a refusal leaves it (rule S4).
abbrev pub told_or : {A : Type 0} → Result A Refusal → (lent : A) → A
told_or (Ok new) lent = new
told_or (Err r) lent = lent

-- An answer that may be absent, with no values then.
abbrev pub found_outcome : {A : Type 0} → (A → List ℕ) → Result (Option A) Refusal → Outcome
found_outcome values (Ok (Some found)) = answered (values found)
found_outcome values (Ok None) = absent []
found_outcome values (Err r) = refusal (number_of r.reason) r.place

-- A lent content key after a lookup: the one found; it stays where none is (rules R16, R23).
abbrev pub key_found : {A : Type 0} → (A → List ℕ) → Result (Option A) Refusal → (lent : List ℕ) → List ℕ
key_found key (Ok (Some found)) lent = key found
key_found key (Ok None) lent = lent
key_found key (Err r) lent = lent
