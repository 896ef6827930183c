-- Laws of the halving rule and of binary digits.
use mathlib.Core.Path.{◌≡◌, refl, sym, ◌∙◌}
use mathlib.Core.Bool.{Bool, true, false}
use Prim.Native.Nat.{ℕ, zero, suc, ◌+◌, ◌-◌, ◌*◌, ◌/◌, ◌^◌, ◌≤◌, ◌<◌}
use native.Mathlib.Nat.{add-zero, zero-add, pow-suc}
use native.Mathlib.Decide.{dec_lt}
use native.Mathlib.Omega.{arith}
use lib.Count.{count_leading_zeros, leading_unique}
use lib.Dec.{ltb}
use lib.Pow.{pow_mono}
use borrow.Author.Tests.{ne_eqb, ltb-true, ltb-false}
use Rattle.parts.proofs.Laws.{by-test}
use Rattle.halving.specs.declared.Halved.{Halved}
use Rattle.halving.specs.Halving.{halved_once, halving, halved_from, halve, least_or, digits_from, binary_digits}
use Rattle.halving.specs.Claims.{Least, First, HalvingFindsFirst, DigitsAreLeast}

pub true-or-false : {b : Bool} → b ≡ true → b ≡ false → ⊥
true-or-false t f = let z : ◌≡◌ {A = ℕ} 0 1 = cc in omega arith

pub by_order : {P : Type 0} (m n : ℕ) → (m < n → P) → (n ≤ m → P) → P
by_order {P} m n less other = go (dec_lt m n)
  where
    go : Dec (m < n) → P
    go (yes l) = less l
    go (no l) = other (omega arith)

-- ---- binary digits

below_power : (k : ℕ) → k < 2 ^ k
below_power zero = omega arith
below_power (suc k) = omega (arith, below_power k, pow-suc 2 k)

module _ (n : ℕ) where
  from-least : (turns d : ℕ) → n < 2 ^ (d + turns) → ((e : ℕ) → n < 2 ^ e → d ≤ e) → Least n (digits_from turns n d)
  unfolding digits_from least_or
  from-least zero d h l = record { below = rw add-zero at h; least = l }
  from-least (suc turns) d h l =
      let shift : d + suc turns ≡ d + 1 + turns = omega arith in
      by-test (ltb n (2 ^ d))
      (λ t. rw t (record { below = ltb-true n (2 ^ d) t; least = l }))
      (λ t. rw t
      (from-least turns (d + 1) (rw shift at h)
      (λ e m. by_order d e (λ k. omega arith) (λ k. absurd (omega (arith, pow_mono k, ltb-false n (2 ^ d) t))))))

pub digits-least : DigitsAreLeast
unfolding binary_digits
digits-least n = from-least n n 0 (rw zero-add (below_power n)) (λ e m. omega arith)

pub digits-none : binary_digits 0 ≡ 0
unfolding binary_digits digits_from
digits-none = refl

-- The most entries that an index has.
pub digits-limit : binary_digits 8388608 ≡ 24
unfolding binary_digits digits_from least_or
digits-limit = refl

pub digits-mono : {m n : ℕ} → m ≤ n → binary_digits m ≤ binary_digits n
digits-mono {m} {n} h = (digits-least m).least (binary_digits n) (omega (arith, (digits-least n).below))

-- No fewer digits hold n.
digits-short : (n d : ℕ) → Least n d → 2 ^ d ≤ 2 * n + 1
digits-short n zero l = omega arith
digits-short n (suc d) l =
    by_order n (2 ^ d) (λ h. absurd (omega (arith, l.least d h))) (λ h. omega (arith, pow-suc 2 d))

-- The width less the leading zeros.
pub digits-width : (w n : ℕ) → n < 2 ^ w → w - count_leading_zeros w n ≡ binary_digits n
digits-width w n h =
    let l = digits-least n in
    let d : binary_digits n ≤ w = l.least w h in
    omega (arith, leading_unique w n (w - binary_digits n) (binary_digits n) (omega arith) l.below (digits-short n (binary_digits n) l))

-- What holds at every number of digits that holds the half of v, with one more, holds at every number that holds v.
one-digit-less : (v half count c : ℕ) → 0 < v → half ≤ v / 2 → ((d : ℕ) → half < 2 ^ d → c ≤ count + 1 + d) → (d : ℕ) → v < 2 ^ d → c ≤ count + d
one-digit-less v half count c some small p zero h = absurd (omega arith)
one-digit-less v half count c some small p (suc d) h = omega (arith, p d (omega (arith, pow-suc 2 d)))

-- ---- the halving rule

module _ (below : ℕ → Bool) where
  pub stop-at-none : (turns start count : ℕ) → halving turns below start 0 count ≡ record { place = start; count = count }
  unfolding halving halved_once
  stop-at-none zero start count = refl
  stop-at-none (suc turns) start count = refl

  module _ (turns start w count : ℕ) (some : 0 < w) where
    pub go-after : below (start + w / 2) ≡ true → halving (suc turns) below start w count ≡ halving turns below (start + w / 2 + 1) (w - w / 2 - 1) (count + 1)
    unfolding halving halved_once
    go-after h = rw (ne_eqb w 0 (omega arith), h)

    pub go-before : below (start + w / 2) ≡ false → halving (suc turns) below start w count ≡ halving turns below start (w / 2) (count + 1)
    unfolding halving halved_once
    go-before h = rw (ne_eqb w 0 (omega arith), h)

  -- What holds where no key is left, and of a range where it holds of the part that the rule goes on with, holds of every range.
  by-halving : (P : ℕ → ℕ → ℕ → Halved → Type 0)
      → ((start count : ℕ) → P start 0 count (record { place = start; count = count }))
      → ((start w count : ℕ) (r : Halved) → 0 < w → below (start + w / 2) ≡ true → P (start + w / 2 + 1) (w - w / 2 - 1) (count + 1) r → P start w count r)
      → ((start w count : ℕ) (r : Halved) → 0 < w → below (start + w / 2) ≡ false → P start (w / 2) (count + 1) r → P start w count r)
      → (turns start w count : ℕ) → w ≤ turns → P start w count (halving turns below start w count)
  by-halving P none after before zero start w count h =
      let e : w ≡ 0 = omega arith in
      rw (e, stop-at-none) (none start count)
  by-halving P none after before (suc turns) start w count h =
      by_order 0 w
      (λ some. by-test (below (start + w / 2))
      (λ t. rw (go-after turns start w count some t)
      (after start w count _ some t (by-halving P none after before turns _ _ _ (omega arith))))
      (λ t. rw (go-before turns start w count some t)
      (before start w count _ some t (by-halving P none after before turns _ _ _ (omega arith)))))
      (λ l. let e : w ≡ 0 = omega arith in
      rw (e, stop-at-none) (none start count))

  -- As many turns as the range has keys are enough.
  pub any-turns : (turns start w count : ℕ) → w ≤ turns → halving turns below start w count ≡ halved_from below start w count
  any-turns turns start w count h =
      by-halving (λ start v count r. (turns : ℕ) → v ≤ turns → r ≡ halving turns below start v count)
      (λ start count turns l. sym (stop-at-none turns start count))
      (λ start v count r some t ih. elim [
        | zero ↦ λ l. absurd (omega arith)
        | suc turns ↦ λ l. ih turns (omega arith) ∙ sym (go-after turns start v count some t)
      ])
      (λ start v count r some t ih. elim [
        | zero ↦ λ l. absurd (omega arith)
        | suc turns ↦ λ l. ih turns (omega arith) ∙ sym (go-before turns start v count some t)
      ])
      turns start w count h w (omega arith)

  -- The place lies in the range, or just after it.
  pub halve-place : (w : ℕ) → (halve below w).place ≤ w
  unfolding halve
  halve-place w =
      by-halving (λ start v count r. start + v ≤ w → r.place ≤ w)
      (λ start count h. omega arith)
      (λ start v count r some t p h. p (omega arith))
      (λ start v count r some t p h. p (omega arith))
      w 0 w 0 (omega arith) (omega arith)

  -- At most as many keys are compared as the range has binary digits.
  pub halve-count : (w : ℕ) → (halve below w).count ≤ binary_digits w
  unfolding halve
  halve-count w =
      let counted = by-halving (λ start v count r. (d : ℕ) → v < 2 ^ d → r.count ≤ count + d)
      (λ start count d h. omega arith)
      (λ start v count r some t p. one-digit-less v _ _ _ some (omega arith) p)
      (λ start v count r some t p. one-digit-less v _ _ _ some (omega arith) p)
      w 0 w 0 (omega arith) (binary_digits w) (digits-least w).below in
      omega arith

  pub halve-most : (w : ℕ) → w < 2 ^ 32 → (halve below w).count ≤ 32
  halve-most w h = omega (arith, halve-count w, (digits-least w).least 32 h)

-- Over rising keys the halving rule finds the first that is not below.
pub halve-first : HalvingFindsFirst
unfolding halve
halve-first below w rising =
    by-halving below
    (λ start v count r. start + v ≤ w → ((i : ℕ) → i < start → below i ≡ true) → (start + v < w → below (start + v) ≡ false) → First below w r.place)
    (λ start count h before stops. record { inside = omega arith; before = before; stops = rw add-zero at stops })
    (λ start v count r some t p h before stops.
    let same : start + v / 2 + 1 + (v - v / 2 - 1) ≡ start + v = omega arith in
    p (omega arith)
    (λ i l. by_order i (start + v / 2)
    (λ m. rising.earlier i (start + v / 2) m (omega arith) t)
    (λ m. let e : i ≡ start + v / 2 = omega arith in cc))
    (rw same stops))
    (λ start v count r some t p h before stops. p (omega arith) before (λ l. t))
    w 0 w 0 (omega arith) (omega arith) (λ i h. absurd (omega arith)) (λ h. absurd (omega arith))

pub first-unique : {below : ℕ → Bool} {w p q : ℕ} → First below w p → First below w q → p ≡ q
first-unique {below} {w} {p} {q} f g =
    by_order p q (λ l. absurd (true-or-false (g.before p l) (f.stops (omega (arith, g.inside)))))
    (λ m. by_order q p (λ l. absurd (true-or-false (f.before q l) (g.stops (omega (arith, f.inside))))) (λ l. omega arith))

-- The halving asks of no key outside the range.
pub halve-agree : (p q : ℕ → Bool) (w : ℕ) → ((i : ℕ) → i < w → p i ≡ q i) → halve p w ≡ halve q w
unfolding halve
halve-agree p q w same =
    by-halving p (λ start v count r. start + v ≤ w → (turns : ℕ) → v ≤ turns → r ≡ halving turns q start v count)
    (λ start count h turns l. sym (stop-at-none q turns start count))
    (λ start v count r some t ih h. elim [
      | zero ↦ λ l. absurd (omega arith)
      | suc turns ↦ λ l. ih (omega arith) turns (omega arith) ∙ sym (go-after q turns start v count some (sym (same _ (omega arith)) ∙ t))
    ])
    (λ start v count r some t ih h. elim [
      | zero ↦ λ l. absurd (omega arith)
      | suc turns ↦ λ l. ih (omega arith) turns (omega arith) ∙ sym (go-before q turns start v count some (sym (same _ (omega arith)) ∙ t))
    ])
    w 0 w 0 (omega arith) (omega arith) w (omega arith)
