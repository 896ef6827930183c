-- What the lookups of an encoding file s tell after its checks, by the plain reading of its pages and of its spec table: rule E25.
use Rattle.std.specs.Prelude.{List, ℕ}
use Rattle.parts.specs.Part.{part_at}
use Rattle.refusal.specs.Check.{first}
use Rattle.refusal.specs.Outcome.{Outcome, after}
use Rattle.encoding_header.specs.declared.Kind.TheVariants.{Content, Encoding}
use Rattle.encoding_header.specs.Header.{header_of, opening}
use Rattle.encoding.specs.Check.{full_check}
use Rattle.encoding_lookup.specs.Lookup.{length_check, told_value, place_told, part_told}
use Rattle.encoding_agreement.specs.Plain.{plain_content, plain_encoding, plain_spec}

-- The full check, 39 for a key of another length, and nothing else is refused; then what the plain reading of all pages finds.
unfoldable pub checked_content : List ℕ → List ℕ → Outcome
checked_content s key = after (first (full_check s) (length_check (header_of s) Content key)) (plain_content s key)

unfoldable pub checked_encoding : List ℕ → List ℕ → Outcome
checked_encoding s key = after (first (full_check s) (length_check (header_of s) Encoding key)) (plain_encoding s key)

-- The parts that they tell, and where they stand.
abbrev pub content_keys_of : List ℕ → List ℕ → List ℕ
content_keys_of s key = part_told s (checked_content s key)

abbrev pub content_keys_at : List ℕ → List ℕ → ℕ
content_keys_at s key = place_told (checked_content s key)

abbrev pub encoded_spec : List ℕ → List ℕ → List ℕ
encoded_spec s key = part_told s (checked_encoding s key)

abbrev pub encoded_spec_at : List ℕ → List ℕ → ℕ
encoded_spec_at s key = place_told (checked_encoding s key)

-- 30 to 33; then what the plain reading of the spec table finds.
unfoldable pub opened_spec : List ℕ → ℕ → Outcome
opened_spec s n = after (opening s) (plain_spec s n)

-- The part that it tells: its place is the first value and its length the second.
unfoldable pub spec_part_at : List ℕ → ℕ → ℕ
spec_part_at s n = told_value 0 (opened_spec s n)

unfoldable pub spec_part : List ℕ → ℕ → List ℕ
spec_part s n = part_at s (spec_part_at s n) (told_value 1 (opened_spec s n))
