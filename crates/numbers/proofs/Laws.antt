-- Laws of the numbers at an offset, over all widths, and of numbers between two bounds.
use mathlib.Core.Path.{◌≡◌, refl, sym, ap₂, ◌∙◌}
use mathlib.Core.List.{List}
use mathlib.Core.Bool.{Bool, true, false, and-false, and-eq-true_iff}
use Rattle.std.specs.Prelude.{IsTrue, ◌↔◌}
use mathlib.Core.Logic.{◌⊎◌, inl, inr}
use borrow.Author.Tests.{le-leb, lt-leb, leb-true}
use Prim.Native.Nat.{◌≤◌, ℕ, zero, suc, ◌+◌, ◌*◌, ◌^◌, ◌<◌}
use native.Mathlib.Nat.{add-zero, mul_assoc, pow-suc, pow-succ', pow-le-pow_right, lt_of_lt_of_le, zero-lt-suc}
use native.Mathlib.Omega.{arith}
use lib.Arith.{digits_lt}
use lib.Dec.{leb, lit<}
use mir.Syntax.{w64}
use mir.Val.{Fits}
use Rattle.parts.specs.Part.{byte_at}
use Rattle.numbers.specs.Number.{big_at, little_at, within}

-- ---- numbers

next : (at w : ℕ) → at + suc w ≡ at + 1 + w
next at w = omega arith

-- The w bytes at a of s are those at b of t.
abbrev pub Agree : List ℕ → List ℕ → ℕ → ℕ → ℕ → Type 0
Agree s t a b w = (i : ℕ) → i < w → byte_at s (a + i) ≡ byte_at t (b + i)

-- A number made of its first byte and the number of the others is the same where the bytes are.
module _ (number : List ℕ → ℕ → ℕ → ℕ) (join : ℕ → ℕ → ℕ → ℕ)
    (none : (s : List ℕ) (at : ℕ) → number s at zero ≡ 0)
    (more : (s : List ℕ) (at w : ℕ) → number s at (suc w) ≡ join w (byte_at s at) (number s (at + 1) w)) where
  agree : (s t : List ℕ) (a b w : ℕ) → Agree s t a b w → number s a w ≡ number t b w
  agree s t a b zero h = none s a ∙ sym (none t b)
  agree s t a b (suc w) h =
      more s a w
      ∙ ap₂ (join w) (simp add-zero at (h zero (zero-lt-suc w)))
      (agree s t (a + 1) (b + 1) w (λ i l. simp next at (h (suc i) (omega arith))))
      ∙ sym (more t b w)

pub big_at-agree : (s t : List ℕ) (a b w : ℕ) → Agree s t a b w → big_at s a w ≡ big_at t b w
unfolding big_at
big_at-agree = agree big_at (λ w b n. b * 256 ^ w + n) (λ s at. refl) (λ s at w. refl)

pub little_at-agree : (s t : List ℕ) (a b w : ℕ) → Agree s t a b w → little_at s a w ≡ little_at t b w
unfolding little_at
little_at-agree = agree little_at (λ w b n. b + 256 * n) (λ s at. refl) (λ s at w. refl)

module _ (s : List ℕ) (bytes : (i : ℕ) → byte_at s i < 256) where
  pub big_at-below : (at w : ℕ) → big_at s at w < 256 ^ w
  unfolding big_at
  big_at-below at zero = lit< tt
  big_at-below at (suc w) = rw pow-succ' (digits_lt (bytes at) (big_at-below (at + 1) w))

  pub little_at-below : (at w : ℕ) → little_at s at w < 256 ^ w
  unfolding little_at
  little_at-below at zero = lit< tt
  little_at-below at (suc w) = rw pow-suc (omega (arith, digits_lt (little_at-below (at + 1) w) (bytes at)))

-- The last byte of a big-endian number is the lowest.
pub big_at-last : (s : List ℕ) (at w : ℕ) → big_at s at (suc w) ≡ big_at s at w * 256 + byte_at s (at + w)
unfolding big_at
big_at-last s at zero = rw (add-zero at) (omega arith)
big_at-last s at (suc w) =
    rw (next at w, big_at-last s (at + 1) w, pow-suc 256 w, ← mul_assoc (byte_at s at) (256 ^ w) 256) (omega arith)

-- The first byte of a little-endian number is the lowest.
pub little_at-first : (s : List ℕ) (at w : ℕ) → little_at s at (suc w) ≡ little_at s (at + 1) w * 256 + byte_at s at
unfolding little_at
little_at-first s at w = omega arith

-- A number of fewer than eight bytes has room for one byte more.
pub one-more-fits : {number byte w : ℕ} → w < 8 → number < 256 ^ w → byte < 256 → Fits w64 (number * 256 + byte)
one-more-fits {w = w} short below b = record {
  fits = lt_of_lt_of_le (digits_lt below b) (rw (← pow-suc 256 w) (pow-le-pow_right (lit< tt) short));
}

-- a number of four bytes
pub word_fits : (s : List ℕ) (at r : ℕ) → ((i : ℕ) → byte_at s i < 256) → r ≡ little_at s at 4 → r < 2 ^ 32
word_fits s at r bytes e = rw e (little_at-below s bytes at 4)

-- ---- numbers between two bounds

module _ (low high x : ℕ) where
  pub within-inside : low ≤ x → x ≤ high → within x low high ≡ true
  unfolding within
  within-inside l m = rw (le-leb low x l, le-leb x high m)

  pub within-outside : (x < low) ⊎ (high < x) → within x low high ≡ false
  unfolding within
  within-outside (inl l) = rw (lt-leb low x l)
  within-outside (inr l) = rw (lt-leb x high l) (and-false (leb low x))

  pub within-range : within x low high ≡ true → (low ≤ x) × (x ≤ high)
  unfolding within
  within-range e =
      let both = (and-eq-true_iff (leb low x) (leb x high)).0 e in
      (leb-true low x both.0, leb-true x high both.1)

  pub within-told : (b : Bool) → (IsTrue b ↔ ((low ≤ x) × (x ≤ high))) → b ≡ within x low high
  within-told true h = let i = h.0 refl in sym (within-inside i.0 i.1)
  within-told false h = go (within x low high) refl
    where
      go : (t : Bool) → within x low high ≡ t → false ≡ t
      go true e = h.1 (within-range e)
      go false e = refl
