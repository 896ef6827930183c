-- The opening checks of an index, in their order: rules I2, I4, I16 and I29. The footer of a loose index: rule I30.
use Rattle.std.specs.Prelude.{Bool, true, false, not, List, [], ◌∷◌, ◌++◌, ℕ, ◌+◌, ◌-◌, ltb, eqb, length, take, replicate, Result}
use Rattle.parts.specs.Part.{byte_at, part_at, same_bytes}
use Rattle.numbers.specs.Number.{within}
use Rattle.md5_digest.specs.Message.{md5}
use Rattle.refusal.specs.Check.{Check, silent, refused, refused_if, first}
use Rattle.refusal.specs.Outcome.{Outcome, answered, after, outcome_by}
use Rattle.refusal.specs.declared.Refusal.{Refusal}
use Rattle.refusal.specs.Number.{index_short, footer_version, footer_reserved, footer_page_size, footer_offset_width, footer_size_width}
use Rattle.refusal.specs.Number.{footer_key_length, footer_hash_length, footer_hash, index_length}
use Rattle.index_layout.specs.declared.Layout.{Layout}
use Rattle.index_layout.specs.Layout.{footer_size, version_at, reserved_at, page_kb_offset, offset_width_at, size_width_at, key_length_at, hash_length_at}
use Rattle.index_layout.specs.Layout.{footer_hash_at, least_version, most_version, page_kb_value, least_offset_width, most_offset_width, size_width}
use Rattle.index_layout.specs.Layout.{least_key_length, most_key_length, hash_length, count_check, footer, entry_count_of, footer_hash_of, index_length_of, layout_of}

-- 1: under 28 bytes (rule I16).
abbrev pub short_check : List ℕ → Check
short_check s = refused_if (ltb (length s) footer_size) index_short 0

-- The number of a field, at its offset: the footer byte there is not one of those from low to high (rule I16).
abbrev pub field_check : List ℕ → (at low high number : ℕ) → Check
field_check f at low high number = refused_if (not (within (byte_at f at) low high)) number at

-- 102 to 108: version, the two reserved bytes, page KB, offset width from low to high, size width, key length and hash length,
-- in order (rules I2, I16).
abbrev pub fields_check_with : List ℕ → (low high : ℕ) → Check
fields_check_with f low high =
    first (field_check f version_at least_version most_version footer_version)
    (first (field_check f reserved_at 0 0 footer_reserved)
    (first (field_check f (reserved_at + 1) 0 0 footer_reserved)
    (first (field_check f page_kb_offset page_kb_value page_kb_value footer_page_size)
    (first (field_check f offset_width_at low high footer_offset_width)
    (first (field_check f size_width_at size_width size_width footer_size_width)
    (first (field_check f key_length_at least_key_length most_key_length footer_key_length)
    (field_check f hash_length_at hash_length hash_length footer_hash_length)))))))

-- The fields of an archive index: W is 4 to 6 (rule I2).
abbrev pub fields_check : List ℕ → Check
fields_check f = fields_check_with f least_offset_width most_offset_width

-- 3: the hash of the 20 bytes from the version on, with the footer hash itself taken as zero (rules I4, I16).
abbrev pub hashed_footer : List ℕ → List ℕ
hashed_footer f = part_at f version_at (footer_hash_at - version_at) ++ replicate hash_length 0

abbrev pub footer_hash_check : List ℕ → Check
footer_hash_check f = refused_if (not (same_bytes (take hash_length (md5 (hashed_footer f))) (footer_hash_of f))) footer_hash 0

-- 102 to 108, 3 and 4.
abbrev pub footer_check : List ℕ → Check
footer_check f = first (fields_check f) (first (footer_hash_check f) (count_check (entry_count_of f)))

-- 1, 102 to 108, 3 and 4, in this order: the last 28 bytes are enough (rules I16, I29).
abbrev pub footer_reading : List ℕ → Check
footer_reading s = first (short_check s) (footer_check (footer s))

-- 5: another length than that of the layout (rules I9, I16).
abbrev pub length_check : List ℕ → Check
length_check s = refused_if (not (eqb (length s) (index_length_of (layout_of s)))) index_length 0

-- The opening checks, in this order (rule I16).
abbrev pub opening : List ℕ → Check
opening s = first (footer_reading s) (length_check s)

-- The values of a layout: version, W, K, n, P (rule I18).
unfoldable pub layout_values : Layout → List ℕ
layout_values l = l.version ∷ l.offset_width ∷ l.key_length ∷ l.entries ∷ l.pages ∷ []

abbrev pub outcome : Result Layout Refusal → Outcome
outcome = outcome_by layout_values

-- What reading the footer of an index gives (rule I29).
abbrev pub footer_outcome : List ℕ → Outcome
footer_outcome s = after (footer_reading s) (answered (layout_values (layout_of s)))

-- What opening an index gives.
abbrev pub open_outcome : List ℕ → Outcome
open_outcome s = after (opening s) (answered (layout_values (layout_of s)))

-- W in the footer of an index of loose files or of patches (rule I30).
abbrev pub loose_offset_width : ℕ
loose_offset_width = 0

-- The footer of such an index: that of an archive index but for W; n is not judged (rule I30).
abbrev pub loose_check : List ℕ → Check
loose_check s =
    first (short_check s) (first (fields_check_with (footer s) loose_offset_width loose_offset_width) (footer_hash_check (footer s)))

abbrev pub passes : Check → Bool
passes silent = true
passes (refused number place) = false

abbrev pub is_loose : List ℕ → Bool
is_loose s = passes (loose_check s)
