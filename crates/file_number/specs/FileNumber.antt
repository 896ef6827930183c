-- File numbers as decimal text: rules D12 and D13.
use Rattle.std.specs.Prelude.{◌≡◌, Bool, cond, ◌&&◌, List, [], ◌∷◌, ℕ, suc, ◌+◌, ◌-◌, ◌*◌, ◌≤◌, ltb, leb, eqb, length, Result, Ok, Err}
use Rattle.parts.specs.Part.{byte_at}
use Rattle.numbers.specs.Number.{within}
use Rattle.refusal.specs.Outcome.{Outcome, answered, absent}
use Rattle.text.specs.Text.{decimal, reads}
use Rattle.file_number.specs.declared.Fault.{Fault}
use Rattle.file_number.specs.declared.Wrong.{Wrong}
use Rattle.file_number.specs.declared.Wrong.TheVariants.{Empty, LeadingZero, NoDigit, TooGreat}

-- The greatest file number (rule D12).
abbrev pub most_number : ℕ
most_number = 4294967295

-- What is wrong with a text: 1 empty, 2 leading zero, 3 no digit, 4 too great (rule D12).
abbrev pub empty : ℕ
empty = 1

abbrev pub leading_zero : ℕ
leading_zero = 2

abbrev pub no_digit : ℕ
no_digit = 3

abbrev pub too_great : ℕ
too_great = 4

abbrev pub number_of : Wrong → ℕ
number_of Empty = empty
number_of LeadingZero = leading_zero
number_of NoDigit = no_digit
number_of TooGreat = too_great

-- No file number: what is wrong, and the place (rule D12).
abbrev pub wrong_at : (what place : ℕ) → Outcome
wrong_at what place = absent (what ∷ place ∷ [])

-- A decimal digit.
abbrev pub is_digit : ℕ → Bool
is_digit b = within b 48 57

-- The bytes before the first that is no digit: its place; the text's length where all are digits.
unfoldable pub digits_of : List ℕ → ℕ
digits_of [] = 0
digits_of (b ∷ text) = cond (is_digit b) (suc (digits_of text)) 0

-- Behind digits that tell n, the digits before the one where the number passes the greatest one.
unfoldable pub fitting : ℕ → List ℕ → ℕ
fitting n [] = 0
fitting n (b ∷ text) = cond (leb (n * 10 + (b - 48)) most_number) (suc (fitting (n * 10 + (b - 48)) text)) 0

-- The number of a text of digits, or 4 where it is too great (rule D12).
abbrev pub bounded_number : List ℕ → Outcome
bounded_number text = cond (ltb (fitting 0 text) (length text)) (wrong_at too_great (fitting 0 text)) (answered (reads 0 text ∷ []))

-- The first byte is 0 and more follow.
abbrev pub has_leading_zero : List ℕ → Bool
has_leading_zero text = ltb 1 (length text) && eqb (byte_at text 0) 48

-- The number, or the first of 1, 2, 3, 4 (rule D12).
abbrev pub file_number_of : List ℕ → Outcome
file_number_of text =
    cond (ltb (length text) 1) (wrong_at empty 0)
    (cond (has_leading_zero text) (wrong_at leading_zero 0)
    (cond (ltb (digits_of text) (length text)) (wrong_at no_digit (digits_of text))
    (bounded_number text)))

-- What reading a text tells.
abbrev pub outcome : Result ℕ Fault → Outcome
outcome (Ok n) = answered (n ∷ [])
outcome (Err f) = wrong_at (number_of f.what) f.place

-- Rule D13: what is read is the number's decimal text, and each number is read back from its decimal text (proofs/Decimals.antt).
pub record Decimals : Type 0 where
  pub written : (text : List ℕ) (n : ℕ) → file_number_of text ≡ answered (n ∷ []) → (decimal n ≡ text) × (n ≤ most_number)
  pub read_back : (n : ℕ) → n ≤ most_number → file_number_of (decimal n) ≡ answered (n ∷ [])
