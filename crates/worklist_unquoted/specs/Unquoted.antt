-- The bytes that a field of separated text stands for, by 13: rules D8 and D11.
use Rattle.std.specs.Prelude.{◌≡◌, Bool, true, false, cond, ◌&&◌, List, [], ◌∷◌, ◌++◌, ℕ, ◌-◌, eqb, length, drop}
use Rattle.parts.specs.Part.{byte_at, part_at}
use Rattle.refusal.specs.Check.{Check}
use Rattle.refusal.specs.Outcome.{Outcome, answered, after}
use Rattle.refusal.specs.Output.{room_check, filled}

abbrev pub quote : ℕ
quote = 34

-- Behind the opening quote: whether the closing quote is the last byte. The flag tells that the byte before is a quote that closes
-- unless another follows (rule D3).
unfoldable pub closes : (closed : Bool) → List ℕ → Bool
closes true [] = true
closes false [] = false
closes true (b ∷ s) = eqb b quote && closes false s
closes false (b ∷ s) = closes (eqb b quote) s

-- One whole quoted field: an opening quote, and a closing one as the last byte (rules D3, D8).
abbrev pub is_whole : List ℕ → Bool
is_whole field = eqb (byte_at field 0) quote && closes false (drop 1 field)

-- What is between the quotes.
abbrev pub between : List ℕ → List ℕ
between field = part_at field 1 (length field - 2)

-- Each doubled quote as one: the byte behind a quote is left out. The flag tells that the byte before is such a quote.
unfoldable pub undoubled : (behind_quote : Bool) → List ℕ → List ℕ
undoubled true [] = []
undoubled false [] = []
undoubled true (b ∷ s) = undoubled false s
undoubled false (b ∷ s) = b ∷ undoubled (eqb b quote) s

-- How many bytes stand for a byte between the quotes.
abbrev pub step_of : ℕ → ℕ
step_of b = cond (eqb b quote) 2 1

-- The bytes that a field stands for (rule D8).
unfoldable pub content_of : List ℕ → List ℕ
content_of field = cond (is_whole field) (undoubled false (between field)) field

-- 13: the output is shorter (rule D8).
abbrev pub unquoted_check : List ℕ → ℕ → Check
unquoted_check field room = room_check (length (content_of field)) room

-- What the output holds at the end (rule D8).
abbrev pub unquoted_output : (field output : List ℕ) → List ℕ
unquoted_output field output = filled (unquoted_check field (length output)) (content_of field) output

abbrev pub unquoted_outcome : List ℕ → ℕ → Outcome
unquoted_outcome field room = after (unquoted_check field room) (answered (length (content_of field) ∷ []))

-- A byte in front of others, twice where it is a quote.
unfoldable pub in_front : (is_quote : Bool) → ℕ → List ℕ → List ℕ
in_front true b s = b ∷ b ∷ s
in_front false b s = b ∷ s

-- Bytes with each quote doubled.
unfoldable pub doubled : List ℕ → List ℕ
doubled [] = []
doubled (b ∷ s) = in_front (eqb b quote) b (doubled s)

-- A quote, the content with each quote doubled, and a quote (rule D11).
abbrev pub quoted_text : List ℕ → List ℕ
quoted_text content = quote ∷ (doubled content ++ (quote ∷ []))

-- Rule D11: unquoting what is quoted gives the content back, and each whole quoted field is its content, quoted (proofs/Quoting.antt).
pub record Quoting : Type 0 where
  pub whole : (content : List ℕ) → is_whole (quoted_text content) ≡ true
  pub back : (content : List ℕ) → content_of (quoted_text content) ≡ content
  pub text : (field : List ℕ) → is_whole field ≡ true → field ≡ quoted_text (content_of field)
