-- What an envelope that opens is, by its key, its chunks and their contents: rule B17.
use Rattle.std.specs.Prelude.{◌≡◌, List, [], ◌∷◌, ◌++◌, ℕ, zero, suc, ◌+◌, ◌<◌, length, take, get_or}
use Rattle.md5_digest.specs.Message.{md5}
use Rattle.envelope_header.specs.Header.{header_of, chunk_count, header_length, encoded_size, decoded_size_at, chunk_hash_at}
use Rattle.envelope.specs.Envelope.{plain_mode, content, envelope_key_of}

-- A plain chunk: the mode byte and then its content.
abbrev pub plain_chunk : List ℕ → List ℕ
plain_chunk c = plain_mode ∷ c

-- The chunks of these contents, one after the other.
unfoldable pub plain_chunks : List (List ℕ) → List ℕ
plain_chunks [] = []
plain_chunks (c ∷ cs) = plain_chunk c ++ plain_chunks cs

-- Contents joined.
unfoldable pub joined : List (List ℕ) → List ℕ
joined [] = []
joined (c ∷ cs) = c ++ joined cs

abbrev pub content_at : List (List ℕ) → ℕ → List ℕ
content_at cs i = get_or cs i []

-- The file is its header and then the chunks of these contents, as many and as long as the header says; its key is the one given.
pub record Opens (s key : List ℕ) (contents : List (List ℕ)) : Type 0 where
  pub key_right : envelope_key_of s ≡ key
  pub count : length contents ≡ chunk_count (header_of s)
  pub encoded : (i : ℕ) → i < chunk_count (header_of s) → length (plain_chunk (content_at contents i)) ≡ encoded_size s (header_of s) i
  pub file : s ≡ take (header_length (header_of s)) s ++ plain_chunks contents
  pub content_joined : content s ≡ joined contents

-- The sum of the decoded sizes of the n chunks from chunk i on.
unfoldable pub decoded_from : List ℕ → ℕ → ℕ → ℕ
decoded_from s i zero = 0
decoded_from s i (suc n) = decoded_size_at s i + decoded_from s (suc i) n

-- With a chunk table each chunk's hash and decoded size are right too, and the length of the content is the sum of the decoded sizes.
pub record OpensTable (s : List ℕ) (contents : List (List ℕ)) : Type 0 where
  pub hash : (i : ℕ) → i < chunk_count (header_of s) → md5 (plain_chunk (content_at contents i)) ≡ chunk_hash_at s i
  pub decoded : (i : ℕ) → i < chunk_count (header_of s) → length (content_at contents i) ≡ decoded_size_at s i
  pub sum : length (joined contents) ≡ decoded_from s 0 (chunk_count (header_of s))
