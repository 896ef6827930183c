-- Bytes and parts of a list of bytes, and what is asked of them: rules G8 and G17.
use Rattle.std.specs.Prelude.{Bool, true, false, ◌&&◌, List, [], ◌∷◌, ◌++◌, ℕ, zero, suc, eqb, get_or, take, drop}

-- The byte at an offset; 0 past the end (rule G8).
abbrev pub byte_at : List ℕ → ℕ → ℕ
byte_at s at = get_or s at 0

-- The bytes from an offset on, as many as asked for where there are as many (rule G8).
abbrev pub part_at : List ℕ → ℕ → ℕ → List ℕ
part_at s at count = take count (drop at s)

-- Whether two lists have the same bytes.
unfoldable pub same_bytes : List ℕ → List ℕ → Bool
same_bytes [] [] = true
same_bytes [] (y ∷ b) = false
same_bytes (x ∷ a) [] = false
same_bytes (x ∷ a) (y ∷ b) = eqb x y && same_bytes a b

-- Whether every byte is 0.
unfoldable pub all_zero : List ℕ → Bool
all_zero [] = true
all_zero (x ∷ s) = eqb x 0 && all_zero s

-- A list with the bytes of another in place of its own from an offset on. Bytes that do not fit are dropped (rule G17).
unfoldable pub overlay : List ℕ → ℕ → List ℕ → List ℕ
overlay [] at from = []
overlay (x ∷ to) (suc at) from = x ∷ overlay to at from
overlay (x ∷ to) zero [] = x ∷ to
overlay (x ∷ to) zero (y ∷ from) = y ∷ overlay to zero from

-- The n numbered parts from number i on, one after the other.
unfoldable pub parts_from : (ℕ → List ℕ) → ℕ → ℕ → List ℕ
parts_from part i zero = []
parts_from part i (suc n) = part i ++ parts_from part (suc i) n
