-- MD5 of a message, and of a message that comes in parts: rules H1, H10 to H12 and H14.
use Rattle.std.specs.Prelude.{Bool, cond, List, ◌++◌, ℕ, ◌+◌, ◌%◌, ◌^◌, ltb, length, take, replicate}
use Rattle.md5_block.specs.Block.{addends, whole}
use Rattle.md5_end.specs.End.{rest, zero_filled}
use Rattle.md5_digest.specs.declared.Md5.{Md5}
use Rattle.parts.specs.Part.{overlay}
use Rattle.refusal.specs.Check.{Check, refused_if}
use Rattle.refusal.specs.Number.{hash_limit}
-- Padding, the first words and the digest's bytes stand in `md5_end`.
unfoldable pub use Rattle.md5_end.specs.End.{little_bytes, padding, initial, digest_of}

-- The MD5 of a message (rule H1).
unfoldable pub md5 : List ℕ → List ℕ
md5 m = digest_of (whole addends (m ++ padding (length m)) initial)

-- The state before the first part (rule H10), and the state that any bytes lead to.
unfoldable pub fresh : Md5
fresh = record { words = initial; pending = replicate 64 0; count = 0 }

unfoldable pub state_after : List ℕ → Md5
state_after m = record { words = whole addends m initial; pending = zero_filled (rest m); count = length m }

-- The bytes of a state that wait for their block to be whole (rule H10).
abbrev pub waiting : Md5 → List ℕ
waiting s = take (s.count % 64) s.pending

-- The pending bytes after one more part: the part is laid after the waiting bytes, and once a block is whole what is left
-- stands alone, with zeros after it (rule H11). So the bytes past the waiting ones are zeros where they were zeros before.
abbrev pub pending_after : Md5 → List ℕ → List ℕ
pending_after s part = cond (ltb (s.count % 64 + length part) 64) (overlay s.pending (s.count % 64) part) (zero_filled (rest (waiting s ++ part)))

-- Any state after one more part (rule H11).
unfoldable pub absorbed : Md5 → List ℕ → Md5
absorbed s part =
    record {
      words = whole addends (waiting s ++ part) s.words;
      pending = pending_after s part;
      count = s.count + length part;
    }

-- The digest that a state ends in (rule H12).
unfoldable pub finished : Md5 → List ℕ
finished s = digest_of (whole addends (waiting s ++ padding s.count) s.words)

-- Whether this total of bytes is more than 2^48 (rule H14).
abbrev pub is_too_long : ℕ → Bool
is_too_long total = ltb (2 ^ 48) total

-- 50: more than 2^48 bytes hashed (rule H14).
abbrev pub limited : ℕ → Check
limited total = refused_if (is_too_long total) hash_limit 0

-- A part that would pass the limit leaves the state as it was (rule H14).
abbrev pub updated : Md5 → List ℕ → Md5
updated s part = cond (is_too_long (s.count + length part)) s (absorbed s part)
