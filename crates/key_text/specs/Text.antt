-- Key text, by 11, 60, 61, and the K bytes: rules G11 and T1 to T4.
use Rattle.std.specs.Prelude.{Bool, not, cond, List, [], ◌∷◌, ℕ, ◌+◌, ◌-◌, ◌*◌, ltb, eqb, length, replicate}
use Rattle.parts.specs.Part.{byte_at}
use Rattle.numbers.specs.Number.{within}
use Rattle.index_layout.specs.Layout.{least_key_length, most_key_length}
use Rattle.refusal.specs.Check.{Check, refused_if, first, first_from}
use Rattle.refusal.specs.Number.{settings, key_text_length, hex_digit}
use Rattle.refusal.specs.Output.{filled}

-- The value of a hex digit, 0 to 9, a to f or A to F (rule T1); 16 for any other character.
abbrev pub digit_of : ℕ → ℕ
digit_of c =
    cond (within c 48 57) (c - 48)
    (cond (within c 97 102) (c - 97 + 10)
    (cond (within c 65 70) (c - 65 + 10)
    16))

-- Whether a character is a hex digit.
abbrev pub is_digit : ℕ → Bool
is_digit c = ltb (digit_of c) 16

-- 11: K is not 1 to 16 (rule T3).
abbrev pub key_length_check : ℕ → Check
key_length_check k = refused_if (not (within k least_key_length most_key_length)) settings 0

-- 60: not 2K characters (rule T3).
abbrev pub text_length_check : List ℕ → ℕ → Check
text_length_check text k = refused_if (not (eqb (length text) (2 * k))) key_text_length 0

-- 61: the character at an offset is not a hex digit (rule T3).
abbrev pub digit_check : List ℕ → ℕ → Check
digit_check text at = refused_if (not (is_digit (byte_at text at))) hex_digit at

-- 61 at the first character that is none.
abbrev pub digits_check : List ℕ → Check
digits_check text = first_from (digit_check text) 0 (length text)

-- 11, 60, 61, in this order (rule T3).
abbrev pub text_check : List ℕ → ℕ → Check
text_check text k = first (key_length_check k) (first (text_length_check text k) (digits_check text))

-- The bytes that a text tells: two digits each, the higher first (rule T2). A single digit left over tells none.
unfoldable pub text_bytes : List ℕ → List ℕ
text_bytes [] = []
text_bytes (x ∷ []) = []
text_bytes (x ∷ y ∷ text) = (digit_of x * 16 + digit_of y) ∷ text_bytes text

-- The sixteen bytes that carry a key by value: the key's, and zeros past them (rule T4); zeros for a text that is refused, which no answer hands back (rule G13).
abbrev pub carried : List ℕ → ℕ → List ℕ
carried text k = filled (text_check text k) (text_bytes text) (replicate 16 0)
