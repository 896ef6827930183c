-- hashlittle2 of Bob Jenkins (lookup3.c, May 2006), with both starting values 0: rule R20. a, b and c are words of 32 bits.
use Rattle.std.specs.Prelude.{ℕ, zero, suc, ◌+◌, ◌-◌, ◌*◌, ◌/◌, ◌%◌, ◌^◌, cond, List, [], ◌∷◌, length, ◌==◌, bit_xor}
use Rattle.numbers.specs.Number.{little_at}
use Rattle.md5_block.specs.Block.{add, rotated}
use Rattle.name_hash.specs.declared.Words.{Words}

-- The difference modulo 2^32.
abbrev pub subtract : ℕ → ℕ → ℕ
subtract x y = (x + 2 ^ 32 - y) % 2 ^ 32

-- b, c and a in the places of a, b and c: the lines of mix and of final then have one form each.
abbrev pub turned : Words → Words
turned w = record { a = w.b; b = w.c; c = w.a }

-- The lines of mix or of final, each with its shift amount.
unfoldable pub lines : (ℕ → Words → Words) → List ℕ → Words → Words
lines line [] w = w
lines line (k ∷ shifts) w = lines line shifts (line k w)

-- a -= c; a ^= rot(c, k); c += b
unfoldable pub mix_line : ℕ → Words → Words
mix_line k w = turned (record { a = bit_xor (subtract w.a w.c) (rotated w.c k); b = w.b; c = add w.c w.b })

-- mix: after six lines a, b and c are in their places.
unfoldable pub mix : Words → Words
mix w = lines mix_line (4 ∷ 6 ∷ 8 ∷ 16 ∷ 19 ∷ 4 ∷ []) w

-- c ^= b; c -= rot(b, k)
unfoldable pub final_line : ℕ → Words → Words
final_line k w = turned (record { a = w.a; b = w.b; c = subtract (bit_xor w.c w.b) (rotated w.b k) })

-- final: after seven lines two turns more bring a, b and c to their places.
unfoldable pub final : Words → Words
final w = turned (turned (lines final_line (14 ∷ 11 ∷ 25 ∷ 16 ∷ 4 ∷ 14 ∷ 24 ∷ []) w))

-- a, b and c at the start, by the count of bytes.
unfoldable pub start : ℕ → Words
start count = record { a = add 0xdeadbeef count; b = add 0xdeadbeef count; c = add 0xdeadbeef count }

-- Three words added to a, b and c.
unfoldable pub added : (x y z : ℕ) → Words → Words
added x y z w = record { a = add w.a x; b = add w.b y; c = add w.c z }

-- The three words at an offset, little-endian, added to a, b and c; bytes past the end are 0 (rule G8).
abbrev pub added_at : List ℕ → ℕ → Words → Words
added_at s at w = added (little_at s at 4) (little_at s (at + 4) 4) (little_at s (at + 8) 4) w

-- a, b and c after n blocks of 12 bytes.
unfoldable pub mixed : (count : ℕ) → List ℕ → ℕ → Words
mixed count s zero = start count
mixed count s (suc n) = mix (added_at s (12 * n) (mixed count s n))

-- The blocks that are mixed: those with bytes behind them.
abbrev pub block_count : (count : ℕ) → ℕ
block_count count = (count - 1) / 12

-- The last 1 to 12 bytes, after the blocks.
abbrev pub ended : (count : ℕ) → List ℕ → Words
ended count s = final (added_at s (12 * block_count count) (mixed count s (block_count count)))

-- Of no bytes nothing is added or mixed.
unfoldable pub hashlittle2 : List ℕ → Words
hashlittle2 s = cond (length s == 0) (start 0) (ended (length s) s)
