-- The content of an envelope s and its checks: rules B6, B7 and B11 to B16.
use Rattle.std.specs.Prelude.{not, ◌&&◌, cond, List, [], ◌∷◌, ℕ, ◌+◌, ◌-◌, ltb, eqb, length, take}
use Rattle.parts.specs.Part.{byte_at, part_at, same_bytes, parts_from}
use Rattle.md5_digest.specs.Message.{md5, limited}
use Rattle.refusal.specs.Check.{Check, silent, refused_if, first, first_from}
use Rattle.refusal.specs.Number.{chunk_hash, chunk_mode, decoded_size, content_output_short, envelope_key}
use Rattle.refusal.specs.Outcome.{Outcome, answered, after}
use Rattle.envelope_header.specs.declared.Header.{Header}
use Rattle.envelope_header.specs.Header.{header_of, tabled, chunk_count, header_length, encoded_size, decoded_size_at, chunk_hash_at, chunk_at, opening, header_values}

-- Chunk i.
abbrev pub chunk_of : List ℕ → Header → ℕ → List ℕ
chunk_of s h i = part_at s (chunk_at s h i) (encoded_size s h i)

-- The bytes of a chunk, and none past the last: what a private function ensures.
abbrev pub size_or_none : List ℕ → Header → ℕ → ℕ
size_or_none s h i = cond (ltb i (chunk_count h)) (encoded_size s h i) 0

-- The first byte of a chunk is its mode; N means the rest is the content (rule B6).
abbrev pub plain_mode : ℕ
plain_mode = 78

abbrev pub mode_of : List ℕ → Header → ℕ → ℕ
mode_of s h i = byte_at s (chunk_at s h i)

abbrev pub content_of : List ℕ → Header → ℕ → List ℕ
content_of s h i = part_at s (chunk_at s h i + 1) (encoded_size s h i - 1)

-- The content of an envelope: that of each chunk, one after the other (rule B6).
unfoldable pub content_by : List ℕ → Header → List ℕ
content_by s h = parts_from (content_of s h) 0 (chunk_count h)

abbrev pub content : List ℕ → List ℕ
content s = content_by s (header_of s)

-- The envelope key: the MD5 of the header, or of the whole file where header size is 0 (rule B7).
unfoldable pub keyed : List ℕ → Header → List ℕ
keyed s h = cond (tabled h) (take (header_length h) s) s

abbrev pub envelope_key_of : List ℕ → List ℕ
envelope_key_of s = md5 (keyed s (header_of s))

-- 50 where header size is 0 and the file is above 2^48 bytes (rule B11).
abbrev pub limit_check : List ℕ → Header → Check
limit_check s h = cond (tabled h) silent (limited (length s))

-- 27: a key not 16 bytes; else 50; else a key that is not the envelope's (rule B11).
abbrev pub envelope_key_check : List ℕ → List ℕ → Check
envelope_key_check s key =
    first (refused_if (not (eqb (length key) 16)) envelope_key 0)
    (first (limit_check s (header_of s))
    (refused_if (not (same_bytes (envelope_key_of s) key)) envelope_key 0))

-- 23: the chunk's MD5 is not the stored one, where there is a chunk table (rule B12).
abbrev pub hash_check : List ℕ → Header → ℕ → Check
hash_check s h i = refused_if (tabled h && not (same_bytes (md5 (chunk_of s h i)) (chunk_hash_at s i))) chunk_hash i

-- 24: mode not N (rule B12).
abbrev pub mode_check : List ℕ → Header → ℕ → Check
mode_check s h i = refused_if (not (eqb (mode_of s h i) plain_mode)) chunk_mode i

-- 25: decoded size not encoded less 1, where there is a chunk table (rule B12).
abbrev pub decoded_check : List ℕ → Header → ℕ → Check
decoded_check s h i = refused_if (tabled h && not (eqb (decoded_size_at s i) (encoded_size s h i - 1))) decoded_size i

-- One chunk: 23, 24, 25 (rule B12).
abbrev pub chunk_check : List ℕ → Header → ℕ → Check
chunk_check s h i = first (hash_check s h i) (first (mode_check s h i) (decoded_check s h i))

-- All chunks, one after the other.
unfoldable pub chunks_check : List ℕ → Header → Check
chunks_check s h = first_from (chunk_check s h) 0 (chunk_count h)

-- 20 to 22, 27, then chunk by chunk 23 to 25 (rule B15).
abbrev pub content_check : List ℕ → List ℕ → Check
content_check s key = first (opening s) (first (envelope_key_check s key) (chunks_check s (header_of s)))

-- What a file that is judged so gives: what its header says.
abbrev pub judged_outcome : List ℕ → List ℕ → Outcome
judged_outcome s key = after (content_check s key) (answered (header_values (header_of s)))

-- 26: the output is too short (rule B13).
abbrev pub output_check : List ℕ → ℕ → Check
output_check s room = refused_if (ltb room (length (content s))) content_output_short 0

-- The whole order: 26 last (rule B14).
abbrev pub open_check : List ℕ → List ℕ → ℕ → Check
open_check s key room = first (content_check s key) (output_check s room)

abbrev pub length_outcome : List ℕ → List ℕ → Outcome
length_outcome s key = after (content_check s key) (answered (length (content s) ∷ []))

abbrev pub open_outcome : List ℕ → List ℕ → ℕ → Outcome
open_outcome s key room = after (open_check s key room) (answered (length (content s) ∷ []))

-- The key that an envelope has: 20 to 22, then 50 (rule B16).
abbrev pub key_of_check : List ℕ → Check
key_of_check s = first (opening s) (limit_check s (header_of s))
