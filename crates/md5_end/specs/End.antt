-- The end of a message, RFC 1321, sections 3.1 to 3.3 and 3.5: rules H3, H4 and H8.
use Rattle.std.specs.Prelude.{List, [], ◌∷◌, ◌++◌, ℕ, zero, suc, ◌-◌, ◌*◌, ◌/◌, ◌%◌, length, drop, replicate}
use Rattle.md5_block.specs.declared.Words.{Words}

-- The lowest n bytes of a number, the lowest first.
unfoldable pub little_bytes : ℕ → ℕ → List ℕ
little_bytes zero x = []
little_bytes (suc n) x = x % 256 ∷ little_bytes n (x / 256)

-- Sections 3.1 and 3.2: one bit, z zero bytes, and the number of bits of n bytes in eight bytes (rule H3).
abbrev pub padded : ℕ → ℕ → List ℕ
padded z n = 128 ∷ replicate z 0 ++ little_bytes 8 (n * 8)

-- How many zeros follow n bytes and the set bit, up to 56 bytes past a whole block (rule H3).
abbrev pub zeros : ℕ → ℕ
zeros n = (119 - n % 64) % 64

-- The padding of a message of n bytes.
unfoldable pub padding : ℕ → List ℕ
padding n = padded (zeros n) n

-- Section 3.3: the words before the first block (rule H4).
unfoldable pub initial : Words
initial = record { a = 0x67452301; b = 0xefcdab89; c = 0x98badcfe; d = 0x10325476 }

-- Section 3.5: a, b, c and d, the lowest byte first (rule H8).
unfoldable pub digest_of : Words → List ℕ
digest_of w = little_bytes 4 w.a ++ little_bytes 4 w.b ++ little_bytes 4 w.c ++ little_bytes 4 w.d

-- What is left of some bytes after their whole blocks.
abbrev pub rest : List ℕ → List ℕ
rest s = drop (length s / 64 * 64) s

-- Fewer than 64 bytes as a block, with zeros after them (rule H11).
abbrev pub zero_filled : List ℕ → List ℕ
zero_filled s = s ++ replicate (64 - length s) 0
