-- Laws of rising keys.
use mathlib.Core.Path.{◌≡◌, sym, ap, ap₂, ◌∙◌}
use mathlib.Core.Bool.{Bool, true, false, not, cond}
use mathlib.Core.List.{List}
use Prim.Native.Nat.{ℕ, zero, suc, ◌+◌, ◌-◌, ◌*◌, ◌≤◌, ◌<◌}
use native.Mathlib.Nat.{le_refl, suc-mul, one-mul, mul-le-mul, mul-le-mul_right, not-suc-le-zero}
use native.Mathlib.Omega.{arith}
use lib.Dec.{ltb}
use borrow.Author.Tests.{lt-ltb, le-ltb}
use Rattle.parts.specs.Part.{byte_at, part_at}
use Rattle.numbers.specs.Number.{big_at}
use Rattle.key.specs.Order.{compared, is_below}
use Rattle.std.specs.declared.cmp.Ordering.TheVariants.{Less}
use Rattle.key.proofs.Laws.{below-of-big_at, part_bytes, part-number}
use Rattle.refusal.specs.Check.{Check, refused_if, first, first_from}
use Rattle.refusal.proofs.Laws.{first_said, first-quiet}
use Rattle.rising.specs.Fall.{rises_at, fall_from}

-- a key's offset fits, and is at least the stride from the second key on
pub at-fits : (i stride : ℕ) → i ≤ 4294967295 → stride ≤ 65535 → i * stride ≤ 4294967295 * 65535
at-fits i stride h k = mul-le-mul h k

pub at_least : (i stride : ℕ) → 1 ≤ i → stride ≤ i * stride
at_least i stride h = omega (arith, mul-le-mul_right stride h, one-mul stride)

pub key-at : (i stride n : ℕ) → i < n → i * stride + stride ≤ n * stride
key-at i stride n h = omega (arith, suc-mul i stride, mul-le-mul_right stride h)

pub before_at : (i stride : ℕ) → 1 ≤ i → i * stride - stride ≡ (i - 1) * stride
before_at zero stride h = absurd (not-suc-le-zero h)
before_at (suc i) stride h =
    let back : suc i - 1 ≡ i = omega arith in
    rw (back, suc-mul i stride) (omega arith)

pub next-at : (i stride : ℕ) → (i + 1) * stride ≡ i * stride + stride
next-at i stride =
    let one : i + 1 ≡ suc i = omega arith in
    rw (one, suc-mul i stride)

-- one check before others, and the number at which it stops
fall-step : (now later : Check) (number : ℕ) (place : ℕ → ℕ) (to i m : ℕ) (b : Bool) → now ≡ refused_if (not b) number (place i) → i < m
    → later ≡ refused_if (ltb to m) number (place to)
    → first now later ≡ refused_if (ltb (cond b to i) m) number (place (cond b to i))
unfolding refused_if
fall-step now later number place to i m true e h l = first-quiet later e ∙ l
fall-step now later number place to i m false e h l = first_said later e ∙ rw (lt-ltb i m h)

later : (b : Bool) (i to : ℕ) → suc i ≤ to → i ≤ cond b to i
later true i to h = omega arith
later false i to h = le_refl i

-- ---- the first that falls
module _ (keys : List ℕ) (stride width : ℕ) where
  pub falls : (i n : ℕ) → i < n → rises_at keys stride width i ≡ false → fall_from keys stride width i (n - i) ≡ i
  unfolding fall_from
  falls i n h e =
      let some : n - i ≡ suc (n - i - 1) = omega arith in
      ap (fall_from keys stride width i) some ∙ ap (λ b. cond b (fall_from keys stride width (suc i) (n - i - 1)) i) e

  pub rises-on : (i n : ℕ) → i < n → rises_at keys stride width i ≡ true
      → fall_from keys stride width i (n - i) ≡ fall_from keys stride width (i + 1) (n - (i + 1))
  unfolding fall_from
  rises-on i n h e =
      let some : n - i ≡ suc (n - (i + 1)) = omega arith in
      let one : suc i ≡ i + 1 = omega arith in
      ap (fall_from keys stride width i) some
      ∙ ap (λ b. cond b (fall_from keys stride width (suc i) (n - (i + 1))) i) e
      ∙ ap (λ j. fall_from keys stride width j (n - (i + 1))) one

  pub none_left : (i n : ℕ) → n ≤ i → fall_from keys stride width i (n - i) ≡ i
  unfolding fall_from
  none_left i n h =
      let none : n - i ≡ 0 = omega arith in
      ap (fall_from keys stride width i) none

  pub fall-low : (i n : ℕ) → i ≤ fall_from keys stride width i n
  unfolding fall_from
  fall-low i zero = le_refl i
  fall-low i (suc n) = later (rises_at keys stride width i) i (fall_from keys stride width (suc i) n) (fall-low (suc i) n)

  -- what a comparison of two neighbours tells
  pub told_at : (i : ℕ) (a b : List ℕ) (r : Bool) → r ≡ is_below (compared a b)
      → a ≡ part_at keys ((i - 1) * stride) width → b ≡ part_at keys (i * stride) width
      → rises_at keys stride width i ≡ r
  unfolding rises_at
  told_at i a b r e f g = sym (e ∙ ap₂ (λ x y. is_below (compared x y)) f g)

  -- a check of each key from i on refuses at the first that falls
  pub fall-check : (check : ℕ → Check) (number : ℕ) (place : ℕ → ℕ) (i n : ℕ)
      → ((j : ℕ) → i ≤ j → j < i + n → check j ≡ refused_if (not (rises_at keys stride width j)) number (place j))
      → first_from check i n ≡ refused_if (ltb (fall_from keys stride width i n) (i + n)) number (place (fall_from keys stride width i n))
  unfolding fall_from first_from refused_if
  fall-check check number place i zero h = rw (le-ltb i (i + 0) (omega arith))
  fall-check check number place i (suc n) h =
      let one : suc i + n ≡ i + suc n = omega arith in
      fall-step (check i) (first_from check (suc i) n) number place (fall_from keys stride width (suc i) n) i (i + suc n) (rises_at keys stride width i)
      (h i (omega arith) (omega arith)) (omega arith)
      (fall-check check number place (suc i) n (λ j a b. h j (omega arith) (omega arith))
      ∙ ap (λ m. refused_if (ltb (fall_from keys stride width (suc i) n) m) number (place (fall_from keys stride width (suc i) n))) one)

-- ---- eight bytes of two keys decide

eight-below : (s : List ℕ) (a b width : ℕ) → 8 ≤ width → ((i : ℕ) → byte_at s i < 256) → big_at s a 8 < big_at s b 8
    → compared (part_at s a width) (part_at s b width) ≡ Less
eight-below s a b width h bytes e =
    below-of-big_at 8 (part_at s a width) (part_at s b width) (part_bytes s b width bytes) (rw (part-number s a width 8 h, part-number s b width 8 h) e)

pub eight-rises : (keys : List ℕ) (stride width i : ℕ) → 8 ≤ width → ((j : ℕ) → byte_at keys j < 256)
    → big_at keys ((i - 1) * stride) 8 < big_at keys (i * stride) 8 → rises_at keys stride width i ≡ true
unfolding rises_at
eight-rises keys stride width i h bytes e = ap is_below (eight-below keys ((i - 1) * stride) (i * stride) width h bytes e)
