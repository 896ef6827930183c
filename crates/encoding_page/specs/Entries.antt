-- The entries of a page of an encoding file s with header h: rules E4 to E12. The page ends before the offset e, and an entry
-- is told by its offset, both in s.
use Rattle.std.specs.Prelude.{Bool, true, false, not, ◌&&◌, ◌||◌, cond, List, [], ◌∷◌, ℕ, zero, suc, ◌+◌, ◌-◌, ◌*◌, ltb, eqb, Result, Ok, Err}
use Rattle.parts.specs.Part.{byte_at, part_at, same_bytes, all_zero, parts_from}
use Rattle.numbers.specs.Number.{big_at}
use Rattle.key.specs.Order.{compared, is_below}
use Rattle.encoding_header.specs.declared.Kind.{Kind}
use Rattle.encoding_header.specs.declared.Kind.TheVariants.{Content, Encoding}
use Rattle.encoding_header.specs.declared.Header.{Header}
use Rattle.encoding_header.specs.Header.{table_of, page_offset, page_end}
use Rattle.encoding_page.specs.declared.Span.{Span}

-- ---- an entry

-- Content entry: count (1), size (5), content key, count encoding keys (rule E4).
-- Encoding entry: key, spec number (4), size (5) (rule E8).
abbrev pub count_width : ℕ
count_width = 1

abbrev pub size_width : ℕ
size_width = 5

abbrev pub spec_width : ℕ
spec_width = 4

unfoldable pub key_offset : Kind → ℕ
key_offset Content = count_width + size_width
key_offset Encoding = 0

abbrev pub size_of_key : Header → Kind → ℕ
size_of_key h kind = (table_of h kind).key_size

unfoldable pub entry_size : List ℕ → Header → Kind → ℕ → ℕ
entry_size s h Content at = count_width + size_width + h.content.key_size + byte_at s at * h.encoding.key_size
entry_size s h Encoding at = h.encoding.key_size + spec_width + size_width

unfoldable pub key_at : List ℕ → Header → Kind → ℕ → List ℕ
key_at s h kind at = part_at s (at + key_offset kind) (size_of_key h kind)

unfoldable pub spec_number_at : List ℕ → Header → ℕ → ℕ
spec_number_at s h at = big_at s (at + h.encoding.key_size) spec_width

-- Spec number 0xFFFFFFFF, or 0 with a key of zeros, is padding and passed over (rule E10). Content pages have none.
abbrev pub no_spec_number : ℕ
no_spec_number = 4294967295

unfoldable pub padding : List ℕ → Header → Kind → ℕ → Bool
padding s h Content at = false
padding s h Encoding at =
    eqb (spec_number_at s h at) no_spec_number || (eqb (spec_number_at s h at) 0 && all_zero (key_at s h Encoding at))

-- ---- the entries of a page

-- Where a page's entries end: where fewer bytes are left of the page than the entry has (rules E6, E9), and in a content page
-- at a count of 0 (rule E5).
unfoldable pub ended : List ℕ → Header → Kind → (e at : ℕ) → Bool
ended s h Content e at = ltb (e - at) (entry_size s h Content at) || eqb (byte_at s at) 0
ended s h Encoding e at = ltb (e - at) (entry_size s h Encoding at)

-- The entries that are no padding, in order, and where they end.
pub record Walk : Type 0 where
  pub entries : List ℕ
  pub end : ℕ

unfoldable pub turn : (over skipped : Bool) → ℕ → Walk → Walk
turn true skipped at later = record { entries = []; end = at }
turn false true at later = later
turn false false at later = record { entries = at ∷ later.entries; end = later.end }

unfoldable pub walk_by : ℕ → List ℕ → Header → Kind → (e at : ℕ) → Walk
walk_by zero s h kind e at = record { entries = []; end = at }
walk_by (suc fuel) s h kind e at =
    turn (ended s h kind e at) (padding s h kind at) at (walk_by fuel s h kind e (at + entry_size s h kind at))

-- The entries from an offset on. Each has a byte or more, so that as many turns as bytes are left are enough.
unfoldable pub walk_from : List ℕ → Header → Kind → (e at : ℕ) → Walk
walk_from s h kind e at = walk_by (e - at) s h kind e at

-- The entries of page i.
unfoldable pub entries_of : List ℕ → Header → Kind → ℕ → Walk
entries_of s h kind i = walk_from s h kind (page_end h kind i) (page_offset h kind i)

-- The entries of all pages of a kind, joined.
unfoldable pub all_entries : List ℕ → Header → Kind → List ℕ
all_entries s h kind = parts_from (λ i. (entries_of s h kind i).entries) 0 (table_of h kind).pages

-- The first entry from an offset on, or where they end.
unfoldable pub head_or : List ℕ → ℕ → ℕ
head_or [] end = end
head_or (at ∷ entries) end = at

abbrev pub next_entry : List ℕ → Header → Kind → (e at : ℕ) → ℕ
next_entry s h kind e at = head_or (walk_from s h kind e at).entries (walk_from s h kind e at).end

-- ---- what is asked of the entries

abbrev pub rises_to : List ℕ → List ℕ → Bool
rises_to a b = is_below (compared a b)

-- Whether keys rise strictly, the first of them from a key before (rule E11).
unfoldable pub rising : (ℕ → List ℕ) → List ℕ → List ℕ → Bool
rising key before [] = true
rising key before (at ∷ entries) = rises_to before (key at) && rising key (key at) entries

-- The last key, or the key before where there is none.
unfoldable pub last_key_before : (ℕ → List ℕ) → List ℕ → List ℕ → List ℕ
last_key_before key before [] = before
last_key_before key before (at ∷ entries) = last_key_before key (key at) entries

unfoldable pub all : (ℕ → Bool) → List ℕ → Bool
all test [] = true
all test (at ∷ entries) = test at && all test entries

-- Whether an entry's spec number has a spec (38 in rule E15); a content entry has no such number.
unfoldable pub spec_known : List ℕ → Header → Kind → ℕ → ℕ → Bool
spec_known s h Content specs at = true
spec_known s h Encoding specs at = ltb (spec_number_at s h at) specs

-- Whether the first entry has this key; where there is no entry it has not (rule E12).
unfoldable pub starts_with : (ℕ → List ℕ) → List ℕ → List ℕ → Bool
starts_with key first [] = false
starts_with key first (at ∷ entries) = same_bytes first (key at)

-- Whether an entry is over the page's end: the entries of a content page end within it at a count above 0 (rule E6).
unfoldable pub over_end : List ℕ → Kind → (e end : ℕ) → Bool
over_end s Content e end = ltb end e && not (eqb (byte_at s end) 0)
over_end s Encoding e end = false

-- The first entry whose key is the sought one, or where the entries end (rule E20).
unfoldable pub search_in : (ℕ → List ℕ) → List ℕ → List ℕ → ℕ → Result ℕ ℕ
search_in key sought [] end = Err end
search_in key sought (at ∷ entries) end = cond (same_bytes (key at) sought) (Ok at) (search_in key sought entries end)

abbrev pub searched : List ℕ → Header → Kind → List ℕ → Walk → Result ℕ ℕ
searched s h kind sought w = search_in (key_at s h kind) sought w.entries w.end

-- ---- a key by its place

-- The bytes that a span tells.
abbrev pub span_of : List ℕ → Span → List ℕ
span_of s span = part_at s span.at span.size

-- Where the key of an entry stands.
abbrev pub key_span : Header → Kind → ℕ → Span
key_span h kind at = record { at = at + key_offset kind; size = size_of_key h kind }

-- Where the last key stands, or the key before where there is none.
unfoldable pub last_span : (ℕ → Span) → Span → List ℕ → Span
last_span key before [] = before
last_span key before (at ∷ entries) = last_span key (key at) entries
