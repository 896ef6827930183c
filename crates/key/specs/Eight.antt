-- Eight bytes read at once; no rule of its own.
use Rattle.std.specs.Prelude.{cond, List, ℕ, ◌+◌, ltb, length}
use Rattle.numbers.specs.Number.{big_at}

-- The big-endian number of the eight bytes at an offset; 0 where fewer are left.
unfoldable pub eight_at : List ℕ → ℕ → ℕ
eight_at s at = cond (ltb (length s) (at + 8)) 0 (big_at s at 8)
