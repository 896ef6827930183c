-- The entries of an index: rules I5, I13 and I15.
use Rattle.std.specs.Prelude.{List, ℕ, ◌+◌, ◌*◌, ◌/◌, ◌%◌, ◌^◌, min}
use Rattle.parts.specs.Part.{part_at, parts_from}
use Rattle.index_layout.specs.declared.Layout.{Layout}
use Rattle.numbers.specs.Number.{big_at}
use Rattle.index_layout.specs.Layout.{size_width, entry_size, on_page, page_offset, entry_at, layout_of}

-- The size and the location of an entry, which follow its key (rule I5).
unfoldable pub size_at : List ℕ → Layout → ℕ → ℕ → ℕ
size_at s l p i = big_at s (entry_at l p i + l.key_length) size_width

unfoldable pub location_at : List ℕ → Layout → ℕ → ℕ → ℕ
location_at s l p i = big_at s (entry_at l p i + l.key_length + size_width) l.offset_width

-- A location as the code reads it, eight bytes at most (rule G17). An index that opens has W up to 6, so it is the same.
unfoldable pub location_read : List ℕ → Layout → ℕ → ℕ → ℕ
location_read s l p i = big_at s (entry_at l p i + l.key_length + size_width) (min l.offset_width 8)

-- With W = 6 the location is archive number (2 bytes), then offset (4) (rule I13).
abbrev pub archive_of : ℕ → ℕ
archive_of location = location / 2 ^ 32

abbrev pub offset_of : ℕ → ℕ
offset_of location = location % 2 ^ 32

-- The list of an index is its entries' bytes, in order, with nothing between (rule I15). The entries of page p stand one after
-- the other from its start on.
abbrev pub entries_of : List ℕ → Layout → ℕ → List ℕ
entries_of s l p = part_at s (page_offset p) (on_page l p * entry_size l)

-- The entries of all pages.
unfoldable pub entries_by : List ℕ → Layout → List ℕ
entries_by s l = parts_from (entries_of s l) 0 l.pages

abbrev pub list_of : List ℕ → List ℕ
list_of s = entries_by s (layout_of s)
