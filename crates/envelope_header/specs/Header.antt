-- The header of an envelope s and where its chunks stand: rules B1 to B5 and B8 to B10.
use Rattle.std.specs.Prelude.{Bool, not, ◌&&◌, ◌||◌, cond, List, [], ◌∷◌, ℕ, zero, suc, ◌+◌, ◌-◌, ◌*◌, leb, eqb, length, Result}
use Rattle.parts.specs.Part.{byte_at, part_at, same_bytes}
use Rattle.numbers.specs.Number.{big_at}
use Rattle.refusal.specs.Check.{Check, refused_if, first, first_from}
use Rattle.refusal.specs.Number.{not_blte, envelope_header, chunk_sizes}
use Rattle.refusal.specs.Outcome.{Outcome, answered, after, outcome_by}
use Rattle.refusal.specs.declared.Refusal.{Refusal}
use Rattle.envelope_header.specs.declared.Header.{Header}

-- "BLTE", then the header size in four bytes (rule B1).
abbrev pub magic : List ℕ
magic = 66 ∷ 76 ∷ 84 ∷ 69 ∷ []

abbrev pub header_size_at : ℕ
header_size_at = 4

abbrev pub short_size : ℕ
short_size = 8

-- Where the header size is not 0: the flags byte, 0x0F, the chunk count in three bytes, then 24 bytes for each chunk (rule B3).
abbrev pub flags_at : ℕ
flags_at = 8

abbrev pub flags : ℕ
flags = 15

abbrev pub count_offset : ℕ
count_offset = 9

abbrev pub table_at : ℕ
table_at = 12

abbrev pub row_size : ℕ
row_size = 24

abbrev pub header_size : List ℕ → ℕ
header_size s = big_at s header_size_at 4

abbrev pub table_count : List ℕ → ℕ
table_count s = big_at s count_offset 3

-- What the header says: the rows of the chunk table. Header size 0: no table, and the rest is one chunk (rule B2).
unfoldable pub header_of : List ℕ → Header
header_of s = record { rows = cond (eqb (header_size s) 0) 0 (table_count s) }

abbrev pub tabled : Header → Bool
tabled h = not (eqb h.rows 0)

unfoldable pub chunk_count : Header → ℕ
chunk_count h = cond (tabled h) h.rows 1

-- The bytes of the header, after which the chunks stand (rules B2, B3).
unfoldable pub header_length : Header → ℕ
header_length h = cond (tabled h) (table_at + row_size * h.rows) short_size

-- The row of chunk i in the table: encoded size (4), decoded size (4), MD5 of the encoded chunk (rule B4).
unfoldable pub row_at : ℕ → ℕ
row_at i = table_at + row_size * i

unfoldable pub encoded_size : List ℕ → Header → ℕ → ℕ
encoded_size s h i = cond (tabled h) (big_at s (row_at i) 4) (length s - short_size)

unfoldable pub decoded_size_at : List ℕ → ℕ → ℕ
decoded_size_at s i = big_at s (row_at i + 4) 4

unfoldable pub chunk_hash_at : List ℕ → ℕ → List ℕ
chunk_hash_at s i = part_at s (row_at i + 8) 16

-- Where chunk i stands: after the header and the chunks before it (rule B5).
unfoldable pub chunk_at : List ℕ → Header → ℕ → ℕ
chunk_at s h zero = header_length h
chunk_at s h (suc i) = chunk_at s h i + encoded_size s h i

-- 20: under 8 bytes, or not BLTE (rule B8).
unfoldable pub magic_right : List ℕ → Bool
magic_right s = leb short_size (length s) && same_bytes (part_at s 0 4) magic

abbrev pub magic_check : List ℕ → Check
magic_check s = refused_if (not (magic_right s)) not_blte 0

-- 21: header size, flags or count wrong, no chunk, header past the end (rule B9).
unfoldable pub header_right : List ℕ → Bool
header_right s =
    eqb (header_size s) 0
    || (eqb (byte_at s flags_at) flags
    && (not (eqb (table_count s) 0)
    && (eqb (header_size s) (table_at + row_size * table_count s)
    && leb (header_size s) (length s))))

abbrev pub header_check : List ℕ → Check
header_check s = refused_if (not (header_right s)) envelope_header 0

-- 22: an empty chunk, or sizes not adding up to the rest (rule B10).
unfoldable pub empty_check : List ℕ → Header → ℕ → Check
empty_check s h i = refused_if (eqb (encoded_size s h i) 0) chunk_sizes 0

abbrev pub sum_check : List ℕ → Header → Check
sum_check s h = refused_if (not (eqb (chunk_at s h (chunk_count h)) (length s))) chunk_sizes 0

unfoldable pub sizes_check : List ℕ → Header → Check
sizes_check s h = first (first_from (empty_check s h) 0 (chunk_count h)) (sum_check s h)

-- 20, 21, 22, in this order (rule B14).
abbrev pub opening : List ℕ → Check
opening s = first (magic_check s) (first (header_check s) (sizes_check s (header_of s)))

-- The value of a header: the rows of its table.
unfoldable pub header_values : Header → List ℕ
header_values h = h.rows ∷ []

abbrev pub outcome : Result Header Refusal → Outcome
outcome = outcome_by header_values

abbrev pub open_outcome : List ℕ → Outcome
open_outcome s = after (opening s) (answered (header_values (header_of s)))
