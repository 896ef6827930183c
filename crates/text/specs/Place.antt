-- Places in output: rule G17.
use Rattle.std.specs.Prelude.{ℕ, ◌+◌, ◌-◌, ◌^◌, min}

-- The place `length` bytes after another. Places end at 2^64 - 1, which no output reaches.
abbrev pub place_after : (at length : ℕ) → ℕ
place_after at length = min (at + length) (2 ^ 64 - 1)
