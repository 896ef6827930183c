-- The footer of an index that is written: rules I2 to I4 and I14.
use Rattle.std.specs.Prelude.{List, ◌∷◌, ◌++◌, ℕ, ◌-◌, take, replicate}
use Rattle.parts.specs.Part.{part_at}
use Rattle.md5_digest.specs.Message.{md5, little_bytes}
use Rattle.index_layout.specs.declared.Layout.{Layout}
use Rattle.index_layout.specs.Layout.{page_kb_value, size_width, hash_length, last_key_offset, page_hash_at}

-- The footer begins after the last page hash (rule I9).
abbrev pub footer_at : Layout → ℕ
footer_at l = page_hash_at l l.pages

-- What the contents hash is of: the last keys and the page hashes, which stand between the pages and the footer (rule I14).
abbrev pub contents_of : List ℕ → Layout → List ℕ
contents_of s l = part_at s (last_key_offset l 0) (footer_at l - last_key_offset l 0)

-- The footer's fields: version, reserved, page KB, offset width, size width, key length, hash length, and the entry count,
-- lowest byte first (rules I2, I3).
unfoldable pub fields : Layout → List ℕ
fields l =
    l.version ∷ 0 ∷ 0 ∷ page_kb_value ∷ l.offset_width ∷ size_width ∷ l.key_length ∷ hash_length ∷ little_bytes 4 l.entries

-- The fields and the footer hash, which is of the fields with the hash itself taken as zero (rule I4).
unfoldable pub hashed_fields : Layout → List ℕ
hashed_fields l = fields l ++ take hash_length (md5 (fields l ++ replicate hash_length 0))

-- The footer: the contents hash, the fields and the footer hash (rules I2, I14).
unfoldable pub footer_with : Layout → List ℕ → List ℕ
footer_with l contents = take hash_length (md5 contents) ++ hashed_fields l
