-- Laws of the digits of a text, one after the other.
use mathlib.Core.Path.{◌≡◌, ◌∙◌}
use mathlib.Core.Bool.{false, and-false}
use mathlib.Core.List.{List, [], ◌∷◌}
use Prim.Native.Nat.{ℕ, zero, suc, ◌+◌, ◌-◌, ◌*◌, ◌≤◌, ◌<◌}
use native.Mathlib.Nat.{add-zero, not-suc-le-zero, le_of_suc-le-suc}
use native.Mathlib.Numerals.{add-one}
use native.Mathlib.Omega.{arith}
use borrow.Author.Tests.{lt-ltb, le-ltb, lt-leb, le-leb, ne_eqb}
use lib.Dec.{ltb}
use lib.ListN.{length, drop, drop_of_length-le}
use lib.Seq.{drop-cons}
use Rattle.parts.specs.Part.{byte_at}
use Rattle.parts.proofs.Laws.{by-test}
use Rattle.numbers.proofs.Laws.{within-range}
use Rattle.refusal.specs.Outcome.{answered}
use Rattle.text.specs.Text.{reads}
use Rattle.file_number.specs.FileNumber.{most_number, too_great, wrong_at}
use Rattle.file_number.specs.FileNumber.{is_digit, digits_of, fitting, bounded_number, has_leading_zero, file_number_of}

pub behind : (text : List ℕ) (at : ℕ) → at < length text → drop at text ≡ byte_at text at ∷ drop (at + 1) text
behind text at l = rw add-one (drop-cons text at 0 l)

-- ---- digits

abbrev pub Digit : ℕ → Type 0
Digit b = (48 ≤ b) × (b ≤ 57)

pub digit-range : (text : List ℕ) → length text ≤ digits_of text → (i : ℕ) → i < length text → Digit (byte_at text i)
unfolding digits_of
digit-range [] h i l = absurd (not-suc-le-zero l)
digit-range (b ∷ text) h zero l = by-test (is_digit b) (λ e. within-range 48 57 b e) (λ e. absurd (not-suc-le-zero (rw e at h)))
digit-range (b ∷ text) h (suc i) l =
    by-test (is_digit b) (λ e. digit-range text (le_of_suc-le-suc (rw e at h)) i (le_of_suc-le-suc l)) (λ e. absurd (not-suc-le-zero (rw e at h)))

-- ---- the number

-- The digits before a place tell n, and n is not too great.
pub record Sum (text : List ℕ) (n at : ℕ) : Type 0 where
  pub inside : at ≤ length text
  pub most : n ≤ most_number
  pub fits : fitting 0 text ≡ at + fitting n (drop at text)
  pub number : reads 0 text ≡ reads n (drop at text)

module _ {text : List ℕ} {n at : ℕ} (s : Sum text n at) where
  pub sum-great : at < length text → most_number < n * 10 + (byte_at text at - 48) → wrong_at too_great at ≡ bounded_number text
  unfolding fitting
  sum-great l h =
      let e : fitting 0 text ≡ at = s.fits ∙ rw (behind text at l, lt-leb (n * 10 + (byte_at text at - 48)) most_number h) (add-zero at) in
      rw (e, lt-ltb at (length text) l)

  pub sum-next : at < length text → n * 10 + (byte_at text at - 48) ≤ most_number → Sum text (n * 10 + (byte_at text at - 48)) (at + 1)
  unfolding fitting reads
  sum-next l h = record {
    inside = omega arith;
    most = h;
    fits = s.fits ∙ rw (behind text at l, le-leb (n * 10 + (byte_at text at - 48)) most_number h) (omega arith);
    number = s.number ∙ rw (behind text at l);
  }

  pub sum-all : length text ≤ at → answered (n ∷ []) ≡ bounded_number text
  unfolding fitting reads
  sum-all h =
      let none = drop_of_length-le text h in
      let e : fitting 0 text ≡ at = s.fits ∙ rw none (add-zero at) in
      let r : reads 0 text ≡ n = s.number ∙ rw none in
      rw (e, le-ltb at (length text) h, r)

-- ---- a number

module _ (text : List ℕ) where
  pub one_byte : length text ≤ 1 → has_leading_zero text ≡ false
  one_byte h = rw (le-ltb 1 (length text) h)

  pub other_byte : (byte_at text 0 ≡ 48 → ⊥) → has_leading_zero text ≡ false
  other_byte h = rw (ne_eqb (byte_at text 0) 48 h) (and-false (ltb 1 (length text)))

  pub told-number : 1 ≤ length text → has_leading_zero text ≡ false → length text ≤ digits_of text → bounded_number text ≡ file_number_of text
  told-number some other h = rw (le-ltb (length text) 1 some, other, le-ltb (digits_of text) (length text) h)
