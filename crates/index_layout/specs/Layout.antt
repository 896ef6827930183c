-- Where things stand in an archive index s: rules I1 to I3, I5 to I7 and I9. K is `key_length`, W `offset_width`, n `entries`
-- and P `pages` of a layout.
use Rattle.std.specs.Prelude.{List, ℕ, ◌+◌, ◌-◌, ◌*◌, ◌/◌, min, ltb, length, drop}
use Rattle.parts.specs.Part.{byte_at, part_at}
use Rattle.numbers.specs.Number.{little_at}
use Rattle.refusal.specs.Check.{Check, refused_if}
use Rattle.refusal.specs.Number.{entry_count}
use Rattle.index_layout.specs.declared.Layout.{Layout}

-- The bytes of a page (rule I6) and of the footer (rule I2).
abbrev pub page_size : ℕ
page_size = 4096

abbrev pub footer_size : ℕ
footer_size = 28

-- Where the footer's fields stand in it, after the eight bytes of the contents hash (rule I2).
abbrev pub version_at : ℕ
version_at = 8

abbrev pub reserved_at : ℕ
reserved_at = 9

abbrev pub page_kb_offset : ℕ
page_kb_offset = 11

abbrev pub offset_width_at : ℕ
offset_width_at = 12

abbrev pub size_width_at : ℕ
size_width_at = 13

abbrev pub key_length_at : ℕ
key_length_at = 14

abbrev pub hash_length_at : ℕ
hash_length_at = 15

abbrev pub entry_count_at : ℕ
entry_count_at = 16

abbrev pub footer_hash_at : ℕ
footer_hash_at = 20

-- What the fields may be: version 0 or 1, page KB 4, W 4, 5 or 6, size width 4, K 1 to 16, hash length 8, and n at most
-- 8,388,608 (rule I2).
abbrev pub least_version : ℕ
least_version = 0

abbrev pub most_version : ℕ
most_version = 1

abbrev pub page_kb_value : ℕ
page_kb_value = 4

abbrev pub least_offset_width : ℕ
least_offset_width = 4

abbrev pub most_offset_width : ℕ
most_offset_width = 6

abbrev pub size_width : ℕ
size_width = 4

abbrev pub least_key_length : ℕ
least_key_length = 1

abbrev pub most_key_length : ℕ
most_key_length = 16

abbrev pub hash_length : ℕ
hash_length = 8

abbrev pub most_entries : ℕ
most_entries = 8388608

-- 4: n above 8,388,608 (rules I16, I21).
abbrev pub count_check : ℕ → Check
count_check n = refused_if (ltb most_entries n) entry_count 0

-- The last 28 bytes (rule I2).
abbrev pub footer : List ℕ → List ℕ
footer s = drop (length s - footer_size) s

-- The fields of a footer f that are read again: everything is big-endian but the entry count (rule I3).
abbrev pub version : List ℕ → ℕ
version f = byte_at f version_at

abbrev pub offset_width_of : List ℕ → ℕ
offset_width_of f = byte_at f offset_width_at

abbrev pub key_length_of : List ℕ → ℕ
key_length_of f = byte_at f key_length_at

abbrev pub entry_count_of : List ℕ → ℕ
entry_count_of f = little_at f entry_count_at 4

abbrev pub footer_hash_of : List ℕ → List ℕ
footer_hash_of f = part_at f footer_hash_at hash_length

-- An entry is key, encoded size and location (rule I5).
unfoldable pub entry_size : Layout → ℕ
entry_size l = l.key_length + size_width + l.offset_width

-- E: how many entries a full page holds (rule I6).
unfoldable pub full : Layout → ℕ
full l = page_size / entry_size l

-- P: how many pages n entries take, at e on a full page (rule I7).
unfoldable pub pages_for : ℕ → ℕ → ℕ
pages_for n e = (n + e - 1) / e

-- A list of entries is written with every page full but the last, which holds the rest: how many entries are placed on page p,
-- and the number in the list of the one that is placed in its slot i (rule I7).
unfoldable pub placed_on : Layout → ℕ → ℕ
placed_on l p = min (full l) (l.entries - p * full l)

abbrev pub placed_number : Layout → ℕ → ℕ → ℕ
placed_number l p i = p * full l + i

-- How many entries page p of a file has, and the number of an entry through the whole file: a file that is read has its entries
-- where they are placed (rule I7).
unfoldable pub on_page : Layout → ℕ → ℕ
on_page l p = placed_on l p

unfoldable pub entry_number : Layout → ℕ → ℕ → ℕ
entry_number l p i = placed_number l p i

-- Where page p stands (rule I7).
abbrev pub page_offset : ℕ → ℕ
page_offset p = p * page_size

-- Where slot i of page p stands (rule I7).
unfoldable pub entry_at : Layout → ℕ → ℕ → ℕ
entry_at l p i = page_offset p + i * entry_size l

-- After the pages: the last key of each page, then the hash of each page, then the footer (rule I9).
unfoldable pub last_key_offset : Layout → ℕ → ℕ
last_key_offset l p = page_offset l.pages + p * l.key_length

unfoldable pub page_hash_at : Layout → ℕ → ℕ
page_hash_at l p = last_key_offset l l.pages + p * hash_length

unfoldable pub index_length_of : Layout → ℕ
index_length_of l = l.pages * (page_size + l.key_length + hash_length) + footer_size

-- The layout of an index with these settings and n entries.
abbrev pub unpaged : (version offset_width_of key_length_of n : ℕ) → Layout
unpaged version offset_width_of key_length_of n =
    record { version = version; offset_width = offset_width_of; key_length = key_length_of; entries = n; pages = 0 }

abbrev pub layout_with : (version offset_width_of key_length_of n : ℕ) → Layout
layout_with version offset_width_of key_length_of n = record {
  version = version;
  offset_width = offset_width_of;
  key_length = key_length_of;
  entries = n;
  pages = pages_for n (full (unpaged version offset_width_of key_length_of n));
}

-- What a footer says.
unfoldable pub layout_from : List ℕ → Layout
layout_from f = layout_with (version f) (offset_width_of f) (key_length_of f) (entry_count_of f)

abbrev pub layout_of : List ℕ → Layout
layout_of s = layout_from (footer s)

-- Page p, whole.
abbrev pub page_of : List ℕ → ℕ → List ℕ
page_of s p = part_at s (page_offset p) page_size

-- The key in slot i of page p.
abbrev pub key_at : List ℕ → Layout → ℕ → ℕ → List ℕ
key_at s l p i = part_at s (entry_at l p i) l.key_length
