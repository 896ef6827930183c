-- The suite's data: rule P8.
use Rattle.std.specs.Prelude.{List, [], ◌∷◌, ◌++◌, ℕ, zero, suc, ◌+◌, ◌*◌, ◌/◌, ◌%◌}

-- Byte i of the data.
abbrev pub data_byte : ℕ → ℕ
data_byte i = (i * 31 + i / 256 * 7 + 5) % 256

-- The first n bytes of the data.
unfoldable pub data_of : ℕ → List ℕ
data_of zero = []
data_of (suc n) = data_of n ++ (data_byte n ∷ [])
