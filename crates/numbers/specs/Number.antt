-- Numbers at an offset of a list of bytes, by rule G6, and numbers between two bounds.
use Rattle.std.specs.Prelude.{Bool, ◌&&◌, List, ℕ, zero, suc, ◌+◌, ◌*◌, ◌^◌, leb}
use Rattle.parts.specs.Part.{byte_at}

-- The number of w bytes at an offset, highest byte first.
unfoldable pub big_at : List ℕ → ℕ → ℕ → ℕ
big_at s at zero = 0
big_at s at (suc w) = byte_at s at * 256 ^ w + big_at s (at + 1) w

-- The number of w bytes at an offset, lowest byte first.
unfoldable pub little_at : List ℕ → ℕ → ℕ → ℕ
little_at s at zero = 0
little_at s at (suc w) = byte_at s at + 256 * little_at s (at + 1) w

-- Whether a number lies between two bounds, both included.
unfoldable pub within : (x low high : ℕ) → Bool
within x low high = leb low x && leb x high
