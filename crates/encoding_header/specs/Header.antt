-- The header of an encoding file s and where its parts stand: rules E1 to E3 and E14. Numbers are big-endian.
use Rattle.std.specs.Prelude.{Bool, not, ◌&&◌, List, [], ◌∷◌, ◌++◌, ℕ, ◌+◌, ◌-◌, ◌*◌, ltb, leb, eqb, length, Result}
use Rattle.parts.specs.Part.{byte_at, part_at, same_bytes}
use Rattle.numbers.specs.Number.{big_at, within}
use Rattle.refusal.specs.Check.{Check, refused_if, first}
use Rattle.refusal.specs.Number.{not_encoding, encoding_header, encoding_cut, spec_table_open}
use Rattle.refusal.specs.Outcome.{Outcome, answered, after, outcome_by}
use Rattle.refusal.specs.declared.Refusal.{Refusal}
use Rattle.encoding_header.specs.declared.Kind.{Kind}
use Rattle.encoding_header.specs.declared.Kind.TheVariants.{Content, Encoding}
use Rattle.encoding_header.specs.declared.Table.{Table}
use Rattle.encoding_header.specs.declared.Header.{Header}

-- The header of 22 bytes: "EN", version, key sizes, page sizes in KB, page counts, flags, spec table size (rule E1).
abbrev pub header_size : ℕ
header_size = 22

abbrev pub magic : List ℕ
magic = 69 ∷ 78 ∷ []

abbrev pub version_at : ℕ
version_at = 2

abbrev pub content_key_size_at : ℕ
content_key_size_at = 3

abbrev pub encoding_key_size_at : ℕ
encoding_key_size_at = 4

abbrev pub content_page_kb_at : ℕ
content_page_kb_at = 5

abbrev pub encoding_page_kb_at : ℕ
encoding_page_kb_at = 7

abbrev pub content_pages_at : ℕ
content_pages_at = 9

abbrev pub encoding_pages_at : ℕ
encoding_pages_at = 13

abbrev pub flags_at : ℕ
flags_at = 17

abbrev pub spec_size_at : ℕ
spec_size_at = 18

-- What the fields may be: version 1, key sizes 1 to 16, flags 0; page sizes, page counts and spec size are above 0 (rule E1).
abbrev pub version : ℕ
version = 1

abbrev pub least_key_size : ℕ
least_key_size = 1

abbrev pub most_key_size : ℕ
most_key_size = 16

abbrev pub flags : ℕ
flags = 0

-- The bytes of a KB, and of a page's MD5.
abbrev pub kb : ℕ
kb = 1024

abbrev pub hash_size : ℕ
hash_size = 16

-- What the header says of the pages of one kind.
unfoldable pub table_from : List ℕ → (key_size_at page_kb_offset pages_at : ℕ) → Table
table_from s key_size_at page_kb_offset pages_at =
    record { key_size = byte_at s key_size_at; page_kb = big_at s page_kb_offset 2; pages = big_at s pages_at 4 }

-- What the header says.
unfoldable pub header_of : List ℕ → Header
header_of s = record {
  content = table_from s content_key_size_at content_page_kb_at content_pages_at;
  encoding = table_from s encoding_key_size_at encoding_page_kb_at encoding_pages_at;
  spec_size = big_at s spec_size_at 4;
}

unfoldable pub table_of : Header → Kind → Table
table_of h Content = h.content
table_of h Encoding = h.encoding

-- A row of an index is first key and MD5 of the page (rule E3).
unfoldable pub row_size : Table → ℕ
row_size t = t.key_size + hash_size

unfoldable pub page_size : Table → ℕ
page_size t = t.page_kb * kb

unfoldable pub index_size : Table → ℕ
index_size t = t.pages * row_size t

unfoldable pub table_size : Table → ℕ
table_size t = index_size t + t.pages * page_size t

-- After the header: spec table, content index, content pages, encoding index, encoding pages (rule E2).
unfoldable pub index_at : Header → Kind → ℕ
index_at h Content = header_size + h.spec_size
index_at h Encoding = header_size + h.spec_size + table_size h.content

unfoldable pub row_at : Header → Kind → ℕ → ℕ
row_at h kind i = index_at h kind + i * row_size (table_of h kind)

unfoldable pub page_offset : Header → Kind → ℕ → ℕ
page_offset h kind i = index_at h kind + index_size (table_of h kind) + i * page_size (table_of h kind)

unfoldable pub page_end : Header → Kind → ℕ → ℕ
page_end h kind i = page_offset h kind i + page_size (table_of h kind)

-- Where the parts end; the rest is the file's own spec, any bytes (rule E2).
unfoldable pub end_of : Header → ℕ
end_of h = index_at h Encoding + table_size h.encoding

abbrev pub spec_table : List ℕ → Header → List ℕ
spec_table s h = part_at s header_size h.spec_size

-- The first key and the MD5 that the index has for page i (rule E3), and the page.
unfoldable pub first_key_at : List ℕ → Header → Kind → ℕ → List ℕ
first_key_at s h kind i = part_at s (row_at h kind i) (table_of h kind).key_size

unfoldable pub page_hash : List ℕ → Header → Kind → ℕ → List ℕ
page_hash s h kind i = part_at s (row_at h kind i + (table_of h kind).key_size) hash_size

unfoldable pub page_of : List ℕ → Header → Kind → ℕ → List ℕ
page_of s h kind i = part_at s (page_offset h kind i) (page_size (table_of h kind))

-- 30: under 22 bytes, or not EN (rule E14).
unfoldable pub magic_right : List ℕ → Bool
magic_right s = leb header_size (length s) && same_bytes (part_at s 0 2) magic

abbrev pub magic_check : List ℕ → Check
magic_check s = refused_if (not (magic_right s)) not_encoding 0

-- 31: a field of the header is not allowed (rules E1, E14).
unfoldable pub table_right : Table → Bool
table_right t =
    within t.key_size least_key_size most_key_size && (not (eqb t.page_kb 0) && not (eqb t.pages 0))

unfoldable pub header_right : List ℕ → Header → Bool
header_right s h =
    eqb (byte_at s version_at) version
    && (table_right h.content
    && (table_right h.encoding
    && (eqb (byte_at s flags_at) flags
    && not (eqb h.spec_size 0))))

abbrev pub header_check : List ℕ → Check
header_check s = refused_if (not (header_right s (header_of s))) encoding_header 0

-- 32: the parts end past the file's end (rule E14).
abbrev pub cut_check : List ℕ → Check
cut_check s = refused_if (ltb (length s) (end_of (header_of s))) encoding_cut 0

-- 33: the last spec is not closed: the spec table's last byte is not 0 (rule E14).
abbrev pub closed_check : List ℕ → Check
closed_check s = refused_if (not (eqb (byte_at s (index_at (header_of s) Content - 1)) 0)) spec_table_open 0

-- 30 to 33, in this order (rule E14).
abbrev pub opening : List ℕ → Check
opening s = first (magic_check s) (first (header_check s) (first (cut_check s) (closed_check s)))

-- The values of a header.
unfoldable pub table_values : Table → List ℕ
table_values t = t.key_size ∷ t.page_kb ∷ t.pages ∷ []

unfoldable pub header_values : Header → List ℕ
header_values h = h.spec_size ∷ table_values h.content ++ table_values h.encoding

abbrev pub outcome : Result Header Refusal → Outcome
outcome = outcome_by header_values

abbrev pub open_outcome : List ℕ → Outcome
open_outcome s = after (opening s) (answered (header_values (header_of s)))
