-- Laws of whole numbers as the code holds them: a number and its bits, and how far a sum can lie from 0.
use mathlib.Core.Path.{◌≡◌, refl, sym, ap₂, ◌∙◌}
use mathlib.Core.Bool.{Bool, true, false, cond, false≢true}
use Prim.Native.Nat.{ℕ, zero, suc, ◌+◌, ◌-◌, ◌^◌, ◌≤◌, ◌<◌}
use native.Mathlib.Nat.{le_trans, lt_of_le_of_lt}
use native.Mathlib.Omega.{arith}
use lib.Dec.{T, ltb}
use lib.IntN.{ℤ, pos, negsuc, nat_abs, suc_ℤ, sub_ℕ, ◌+ℤ◌, +ℤ_one}
use lib.Signed.{mag, lt_z, non_neg}
use mir.Syntax.{w32, w64}
use mir.Val.{Fits, SFits, to_z, of_z}
use mir.Facts.{to_z-of_z}
use borrow.Author.Tests.{lt-ltb, le-leb, lt-leb, ltb-true, ltb-false, leb-true}
use Rattle.root_block.specs.Ids.{sign_bit, modulus, signed, most_id, in_range}

-- ---- how far a sum lies from 0

either : (t : Bool) (x y k : ℕ) → x ≤ k → y ≤ k → mag (cond t (negsuc x) (pos y)) ≤ k
either true x y k a b = a
either false x y k a b = b

mag-sub : (a b k : ℕ) → a ≤ k → b ≤ k + 1 → mag (sub_ℕ a b) ≤ k
mag-sub a b k h l = either (ltb a b) (b - suc a) (a - b) k (omega arith) (omega arith)

mag-next : (p d : ℤ) (h : ℕ) → mag d < h → mag (suc_ℤ p +ℤ d) ≤ mag p + h
mag-next (pos a) (pos b) h l = omega arith
mag-next (pos a) (negsuc b) h l = mag-sub (suc a) (suc b) (a + h) (omega arith) (omega arith)
mag-next (negsuc zero) (pos b) h l = omega arith
mag-next (negsuc zero) (negsuc b) h l = mag-sub zero (suc b) (0 + h) (omega arith) (omega arith)
mag-next (negsuc (suc n)) (pos b) h l = mag-sub b (suc n) (suc n + h) (omega arith) (omega arith)
mag-next (negsuc (suc n)) (negsuc b) h l = omega arith

-- an id, plus 1, plus a delta
pub mag-step : (p d : ℤ) (h : ℕ) → mag d < h → mag (p +ℤ pos 1 +ℤ d) ≤ mag p + h
mag-step p d h l = rw (+ℤ_one p) (mag-next p d h l)

pub mag-one : (p : ℤ) → mag (p +ℤ pos 1) ≤ mag p + 1
mag-one p = rw (+ℤ_one p) (one p)
  where
    one : (q : ℤ) → mag (suc_ℤ q) ≤ mag q + 1
    one (pos n) = omega arith
    one (negsuc zero) = omega arith
    one (negsuc (suc n)) = omega arith

-- ---- the signed number of four bytes

pub signed-is : (x : ℕ) → x < 2 ^ 32 → to_z w32 x ≡ signed x
unfolding signed
signed-is x l = by (ltb x sign_bit) refl
  where
    by : (t : Bool) → ltb x sign_bit ≡ t → to_z w32 x ≡ signed x
    by true e = rw e
    by false e = rw (e, lt-ltb x modulus l)

-- ---- an id, plus 1, plus a delta, as the code reckons it in an i64

abbrev pub reckoned : ℕ → ℤ → ℤ
reckoned id r = to_z w64 (of_z w64 (to_z w64 id +ℤ pos 1)) +ℤ to_z w64 (of_z w64 (to_z w32 (of_z w32 r)))

pub cast_fits : (r : ℤ) → mag r < 2147483648 → SFits w64 (to_z w32 (of_z w32 r))
cast_fits r small = rw (to_z-of_z {w = w32} {z = r} (record { sfits = small })) (record { sfits = omega arith })

module _ (id : ℕ) (r : ℤ) (k : ℕ) (near : mag (to_z w64 id) ≤ k) (room : k + 2147483648 < 2 ^ 63) (small : mag r < 2147483648) where
  pub one-fits : SFits w64 (to_z w64 id +ℤ pos 1)
  one-fits = record { sfits = lt_of_le_of_lt (mag-one (to_z w64 id)) (omega arith) }

  pub reckoned-is : reckoned id r ≡ to_z w64 id +ℤ pos 1 +ℤ r
  reckoned-is =
      ap₂ ◌+ℤ◌ (to_z-of_z one-fits)
      (to_z-of_z (cast_fits r small) ∙ to_z-of_z {w = w32} (record { sfits = small }))

  pub step-near : mag (to_z w64 id +ℤ pos 1 +ℤ r) ≤ k + 2147483648
  step-near = le_trans (mag-step (to_z w64 id) r 2147483648 small) (omega arith)

  pub step_fits : SFits w64 (to_z w64 id +ℤ pos 1 +ℤ r)
  step_fits = record { sfits = lt_of_le_of_lt step-near room }

  pub reckoned-fits : SFits w64 (reckoned id r)
  reckoned-fits = rw reckoned-is step_fits

-- ---- the range of ids, as the code tests it

pub below-range : (z : ℤ) → lt_z z (pos 0) ≡ true → in_range z ≡ false
unfolding in_range
below-range (pos n) e = absurd (omega (arith, ltb-true n 0 e))
below-range (negsuc n) e = refl

pub above-range : (z : ℤ) → lt_z (pos most_id) z ≡ true → in_range z ≡ false
unfolding in_range
above-range (pos n) e = lt-leb n most_id (ltb-true most_id n e)
above-range (negsuc n) e = refl

pub within-range : (z : ℤ) → lt_z z (pos 0) ≡ false → lt_z (pos most_id) z ≡ false → in_range z ≡ true
unfolding in_range
within-range (pos n) e g = le-leb n most_id (ltb-false most_id n g)
within-range (negsuc n) e g = sym e

-- an id in its range is a number of 32 bits
pub range-fits : (z : ℤ) → in_range z ≡ true → T (non_neg z) × Fits w32 (nat_abs z)
unfolding in_range
range-fits (pos n) e = (tt, record { fits = omega (arith, leb-true n most_id e) })
range-fits (negsuc n) e = absurd (false≢true e)

pub range-pos : (z : ℤ) → in_range z ≡ true → pos (nat_abs z) ≡ z
unfolding in_range
range-pos (pos n) e = refl
range-pos (negsuc n) e = absurd (false≢true e)
