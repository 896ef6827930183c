-- Lookups in an encoding file s: rules E18 and E20 to E24.
use Rattle.std.specs.Prelude.{not, cond, List, [], ◌∷◌, ℕ, zero, suc, ◌+◌, ◌*◌, ltb, eqb, length, get_or, Option, Some, None, Result, Ok, Err}
use Rattle.parts.specs.Part.{byte_at, part_at}
use Rattle.numbers.specs.Number.{big_at}
use Rattle.refusal.specs.Check.{Check, silent, refused, refused_if, first}
use Rattle.refusal.specs.Number.{number_of, encoding_key_length, spec_number}
use Rattle.refusal.specs.declared.Refusal.{Refusal}
use Rattle.refusal.specs.declared.Reason.TheVariants.{EntryOverPage}
use Rattle.refusal.specs.Outcome.{Outcome, answered, absent, refusal, after, outcome_by}
use Rattle.spec_table.specs.Specs.{count_of, start_of, length_at, spec_of, place_of}
use Rattle.encoding_header.specs.declared.Kind.{Kind}
use Rattle.encoding_header.specs.declared.Kind.TheVariants.{Content, Encoding}
use Rattle.encoding_header.specs.declared.Header.{Header}
use Rattle.encoding_header.specs.Header.{header_size, header_of, header_values, table_of, page_offset, page_end, spec_table, opening}
use Rattle.encoding_page.specs.Entries.{count_width, size_width, spec_width, spec_number_at, walk_from, searched, over_end}
use Rattle.encoding_index.specs.Chosen.{pages_up_to}
use Rattle.encoding_lookup.specs.declared.Content as content
use Rattle.encoding_lookup.specs.declared.Encoded.{Encoded}
use Rattle.encoding_lookup.specs.declared.Spec.{Spec}

-- ---- the search

-- Where a search ends: at an entry, nowhere, or before an entry over the end of a page, which is 35 at that page.
abbrev pub Seek : Type 0
Seek = Result (Option ℕ) Refusal

abbrev pub over_page : ℕ → Refusal
over_page i = record { reason = EntryOverPage; place = i }

-- Where the search of page i ends: at the first entry with the sought key, or at the page's end or an entry over it (rule E20).
unfoldable pub page_seek : List ℕ → Header → Kind → ℕ → Result ℕ ℕ → Seek
page_seek s h kind i (Ok at) = Ok (Some at)
page_seek s h kind i (Err end) = cond (over_end s kind (page_end h kind i) end) (Err (over_page i)) (Ok None)

-- The page that the first keys tell; none: absent (rule E19).
unfoldable pub seek_on : List ℕ → Header → Kind → List ℕ → ℕ → Seek
seek_on s h kind sought zero = Ok None
seek_on s h kind sought (suc i) =
    page_seek s h kind i (searched s h kind sought (walk_from s h kind (page_end h kind i) (page_offset h kind i)))

unfoldable pub seek : List ℕ → Header → Kind → List ℕ → Seek
seek s h kind sought = seek_on s h kind sought (pages_up_to s h kind sought)

-- ---- the checks of a lookup

-- 39: the sought key is not of the kind's key size (rule E18).
abbrev pub length_check : Header → Kind → List ℕ → Check
length_check h kind key = refused_if (not (eqb (length key) (table_of h kind).key_size)) encoding_key_length 0

-- 30 to 33, then 39 (rule E18).
abbrev pub lookup_check : List ℕ → Kind → List ℕ → Check
lookup_check s kind key = first (opening s) (length_check (header_of s) kind key)

-- What a file that is judged so gives: what its header says.
abbrev pub opened_for : List ℕ → Kind → List ℕ → Outcome
opened_for s kind key = after (lookup_check s kind key) (answered (header_values (header_of s)))

-- ---- a content key

-- The run of encoding keys of the entry at an offset (rule E4).
abbrev pub run_at : Header → ℕ → ℕ
run_at h at = at + count_width + size_width + h.content.key_size

abbrev pub run_length : List ℕ → Header → ℕ → ℕ
run_length s h at = byte_at s at * h.encoding.key_size

-- Decoded size, number of encoding keys, place and length of their run (rule E21).
abbrev pub content_told : List ℕ → Header → ℕ → Outcome
content_told s h at = answered (big_at s (at + count_width) size_width ∷ byte_at s at ∷ run_at h at ∷ run_length s h at ∷ [])

-- What a search tells, by what it tells of an entry: nothing found is absent, an entry met over the end is 35 (rule E20).
abbrev pub seek_told : (ℕ → Outcome) → Seek → Outcome
seek_told told (Ok (Some at)) = told at
seek_told told (Ok None) = absent []
seek_told told (Err r) = refusal (number_of r.reason) r.place

abbrev pub content_lookup : List ℕ → List ℕ → Outcome
content_lookup s key =
    after (lookup_check s Content key) (seek_told (content_told s (header_of s)) (seek s (header_of s) Content key))

abbrev pub content_values : content.Content → List ℕ
content_values c = c.size ∷ c.keys ∷ c.at ∷ c.length ∷ []

abbrev pub content_outcome : Result (Option content.Content) Refusal → Outcome
content_outcome (Ok (Some c)) = answered (content_values c)
content_outcome (Ok None) = absent []
content_outcome (Err r) = refusal (number_of r.reason) r.place

-- A value that a lookup tells, by its number; 0 where it refuses or the key is absent.
unfoldable pub told_value : ℕ → Outcome → ℕ
told_value i (answered values) = get_or values i 0
told_value i (absent values) = 0
told_value i (refusal number place) = 0

-- The part that a lookup of a key tells: its place is the third value and its length the fourth. So it is empty, at the file's
-- start, where the lookup refuses or the key is absent (rule E24).
abbrev pub place_told : Outcome → ℕ
place_told told = told_value 2 told

abbrev pub part_told : List ℕ → Outcome → List ℕ
part_told s told = part_at s (place_told told) (told_value 3 told)

-- The run of encoding keys, and where it stands.
unfoldable pub encoding_keys_of : List ℕ → List ℕ → List ℕ
encoding_keys_of s key = part_told s (content_lookup s key)

unfoldable pub encoding_keys_at : List ℕ → List ℕ → ℕ
encoding_keys_at s key = place_told (content_lookup s key)

-- ---- a spec by its number

-- 38: a spec number past the table (rules E22, E23).
abbrev pub spec_check : List ℕ → Header → ℕ → Check
spec_check s h n = refused_if (not (ltb n (count_of (spec_table s h)))) spec_number 0

-- The place and length of spec n (rules E23, E24).
abbrev pub spec_at : List ℕ → Header → ℕ → ℕ
spec_at s h n = header_size + start_of (spec_table s h) n

abbrev pub spec_length : List ℕ → Header → ℕ → ℕ
spec_length s h n = length_at (spec_table s h) (start_of (spec_table s h) n)

abbrev pub spec_told : List ℕ → Header → ℕ → Outcome
spec_told s h n = after (spec_check s h n) (answered (spec_at s h n ∷ spec_length s h n ∷ []))

abbrev pub spec_lookup : List ℕ → ℕ → Outcome
spec_lookup s n = after (opening s) (spec_told s (header_of s) n)

abbrev pub spec_values : Spec → List ℕ
spec_values p = p.at ∷ p.length ∷ []

abbrev pub spec_outcome : Result Spec Refusal → Outcome
spec_outcome = outcome_by spec_values

-- The spec itself, the string of that number in the table; none after a refusal (rule E24).
unfoldable pub part_after : Check → List ℕ → List ℕ
part_after silent part = part
part_after (refused number place) part = []

unfoldable pub spec_string : List ℕ → ℕ → List ℕ
spec_string s n = part_after (opening s) (spec_of (spec_table s (header_of s)) n)

-- Where it stands; the table's start for a number past the table, the file's start after 30 to 33.
unfoldable pub place_after : Check → ℕ → ℕ
place_after silent at = at
place_after (refused number place) at = 0

unfoldable pub spec_string_at : List ℕ → ℕ → ℕ
spec_string_at s n = place_after (opening s) (header_size + place_of (spec_table s (header_of s)) n)

-- ---- an encoding key

-- Spec number, encoded size, place and length of the spec; 38 for the found entry only (rule E22).
abbrev pub encoding_told : List ℕ → Header → ℕ → Outcome
encoding_told s h at =
    after (spec_check s h (spec_number_at s h at))
    (answered (spec_number_at s h at
    ∷ big_at s (at + h.encoding.key_size + spec_width) size_width
    ∷ spec_at s h (spec_number_at s h at)
    ∷ spec_length s h (spec_number_at s h at)
    ∷ []))

abbrev pub encoding_lookup : List ℕ → List ℕ → Outcome
encoding_lookup s key =
    after (lookup_check s Encoding key) (seek_told (encoding_told s (header_of s)) (seek s (header_of s) Encoding key))

abbrev pub encoding_values : Encoded → List ℕ
encoding_values e = e.spec ∷ e.size ∷ e.at ∷ e.length ∷ []

abbrev pub encoding_outcome : Result (Option Encoded) Refusal → Outcome
encoding_outcome (Ok (Some e)) = answered (encoding_values e)
encoding_outcome (Ok None) = absent []
encoding_outcome (Err r) = refusal (number_of r.reason) r.place

-- The spec of the found entry, and where it stands.
unfoldable pub encoding_spec : List ℕ → List ℕ → List ℕ
encoding_spec s key = part_told s (encoding_lookup s key)

unfoldable pub encoding_spec_at : List ℕ → List ℕ → ℕ
encoding_spec_at s key = place_told (encoding_lookup s key)
