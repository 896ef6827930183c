-- One block of RFC 1321, section 3.4: rules H2 and H5 to H7.
use Rattle.std.specs.Prelude.{ℕ, zero, suc, ◌+◌, ◌-◌, ◌*◌, ◌/◌, ◌%◌, ◌^◌, List, [], ◌∷◌, length, drop, bit_and, bit_or, bit_xor, slice_index}
use Rattle.md5_block.specs.declared.Words.{Words}

-- The sixty-four addends, T of RFC 1321 (rule H5).
unfoldable pub addends : List ℕ
addends =
    0xd76aa478 ∷ 0xe8c7b756 ∷ 0x242070db ∷ 0xc1bdceee ∷ 0xf57c0faf ∷ 0x4787c62a ∷ 0xa8304613 ∷ 0xfd469501 ∷
    0x698098d8 ∷ 0x8b44f7af ∷ 0xffff5bb1 ∷ 0x895cd7be ∷ 0x6b901122 ∷ 0xfd987193 ∷ 0xa679438e ∷ 0x49b40821 ∷
    0xf61e2562 ∷ 0xc040b340 ∷ 0x265e5a51 ∷ 0xe9b6c7aa ∷ 0xd62f105d ∷ 0x02441453 ∷ 0xd8a1e681 ∷ 0xe7d3fbc8 ∷
    0x21e1cde6 ∷ 0xc33707d6 ∷ 0xf4d50d87 ∷ 0x455a14ed ∷ 0xa9e3e905 ∷ 0xfcefa3f8 ∷ 0x676f02d9 ∷ 0x8d2a4c8a ∷
    0xfffa3942 ∷ 0x8771f681 ∷ 0x6d9d6122 ∷ 0xfde5380c ∷ 0xa4beea44 ∷ 0x4bdecfa9 ∷ 0xf6bb4b60 ∷ 0xbebfbc70 ∷
    0x289b7ec6 ∷ 0xeaa127fa ∷ 0xd4ef3085 ∷ 0x04881d05 ∷ 0xd9d4d039 ∷ 0xe6db99e5 ∷ 0x1fa27cf8 ∷ 0xc4ac5665 ∷
    0xf4292244 ∷ 0x432aff97 ∷ 0xab9423a7 ∷ 0xfc93a039 ∷ 0x655b59c3 ∷ 0x8f0ccc92 ∷ 0xffeff47d ∷ 0x85845dd1 ∷
    0x6fa87e4f ∷ 0xfe2ce6e0 ∷ 0xa3014314 ∷ 0x4e0811a1 ∷ 0xf7537e82 ∷ 0xbd3af235 ∷ 0x2ad7d2bb ∷ 0xeb86d391 ∷ []

-- The sixteen shift amounts, four for each round (rule H5).
unfoldable pub shifts : List ℕ
shifts = 7 ∷ 12 ∷ 17 ∷ 22 ∷ 5 ∷ 9 ∷ 14 ∷ 20 ∷ 4 ∷ 11 ∷ 16 ∷ 23 ∷ 6 ∷ 10 ∷ 15 ∷ 21 ∷ []

-- The sum modulo 2^32 (rule H2).
abbrev pub add : ℕ → ℕ → ℕ
add x y = (x + y) % 2 ^ 32

-- The bits of a 32-bit word turned round.
abbrev pub complement : ℕ → ℕ
complement x = 2 ^ 32 - 1 - x

-- A 32-bit word rotated left by s bits, s from 1 to 31.
abbrev pub rotated : ℕ → ℕ → ℕ
rotated x s = bit_or (x * 2 ^ s % 2 ^ 32) (x / 2 ^ (32 - s))

-- F, G, H and I of RFC 1321, by the round (rule H6).
unfoldable pub mixed : ℕ → ℕ → ℕ → ℕ → ℕ
mixed zero b c d = bit_or (bit_and b c) (bit_and (complement b) d)
mixed (suc zero) b c d = bit_or (bit_and b d) (bit_and c (complement d))
mixed (suc (suc zero)) b c d = bit_xor (bit_xor b c) d
mixed (suc (suc (suc r))) b c d = bit_xor c (bit_or b (complement d))

-- The number of the word that step i adds, by the round (rule H6).
unfoldable pub word_number : ℕ → ℕ → ℕ
word_number zero i = i % 16
word_number (suc zero) i = (5 * i + 1) % 16
word_number (suc (suc zero)) i = (3 * i + 5) % 16
word_number (suc (suc (suc r))) i = 7 * i % 16

-- What step i adds to b, with the table of addends t and the block's words x.
unfoldable pub turned : List ℕ → List ℕ → ℕ → Words → ℕ
turned t x i w =
    rotated (add (add (add w.a (mixed (i / 16) w.b w.c w.d)) (slice_index x (word_number (i / 16) i))) (slice_index t i))
    (slice_index shifts (i / 16 * 4 + i % 4))

-- Step i: a, b, c and d change places for the next step (rule H6).
unfoldable pub step : List ℕ → List ℕ → ℕ → Words → Words
step t x i w = record { a = w.d; b = add w.b (turned t x i w); c = w.b; d = w.c }

-- The n steps from step i on.
unfoldable pub steps : List ℕ → List ℕ → ℕ → ℕ → Words → Words
steps t x i zero w = w
steps t x i (suc n) w = step t x (i + n) (steps t x i n w)

-- Four bytes as a word, the lowest first.
unfoldable pub word : List ℕ → ℕ
word s = slice_index s 0 + slice_index s 1 * 256 + slice_index s 2 * 65536 + slice_index s 3 * 16777216

-- The first n words of some bytes.
unfoldable pub words_of : ℕ → List ℕ → List ℕ
words_of zero s = []
words_of (suc n) s = word s ∷ words_of n (drop 4 s)

-- The sum of two states of the words.
unfoldable pub sum : Words → Words → Words
sum v w = record { a = add v.a w.a; b = add v.b w.b; c = add v.c w.c; d = add v.d w.d }

-- The words after one block of sixteen words (rule H7).
unfoldable pub block : List ℕ → List ℕ → Words → Words
block t x w = sum w (steps t x 0 64 w)

-- The words after the first n blocks of s.
unfoldable pub blocks : List ℕ → ℕ → List ℕ → Words → Words
blocks t zero s w = w
blocks t (suc n) s w = blocks t n (drop 64 s) (block t (words_of 16 s) w)

-- The words after all whole blocks of s.
abbrev pub whole : List ℕ → List ℕ → Words → Words
whole t s w = blocks t (length s / 64) s w
