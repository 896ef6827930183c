-- The lines of a listing: rules T6 and T7.
use Rattle.std.specs.Prelude.{cond, List, ◌++◌, ℕ, eqb}
use Rattle.index_layout.specs.declared.Layout.{Layout}
use Rattle.index_layout.specs.Entries.{archive_of, offset_of}
use Rattle.text.specs.Text.{ascii, numbered, hex}

-- The first line: K, W, n and P (rule T6).
unfoldable pub header : Layout → List ℕ
header l =
    numbered "index key=" l.key_length
    ++ numbered " offset=" l.offset_width
    ++ numbered " entries=" l.entries
    ++ numbered " pages=" l.pages
    ++ ascii "\n"

-- With W = 6 the archive number, else a dash; then the offset (rules T7, I13).
unfoldable pub location_text : ℕ → ℕ → List ℕ
location_text w location =
    cond (eqb w 6) (numbered " " (archive_of location) ++ numbered " " (offset_of location)) (numbered " - " location)

-- The line of an entry: key, size, and archive number and offset (rule T7).
unfoldable pub entry_line : List ℕ → ℕ → ℕ → ℕ → List ℕ
entry_line key size w location = hex key ++ numbered " " size ++ location_text w location ++ ascii "\n"
