-- The order of keys, as unsigned bytes from the left: rule G10.
use Rattle.std.specs.Prelude.{Bool, true, false, List, [], ◌∷◌, ℕ, ltb}
use Rattle.std.specs.declared.cmp.Ordering.{Ordering}
use Rattle.std.specs.declared.cmp.Ordering.TheVariants.{Less, Equal, Greater}

-- What two bytes decide: below or above where one is less than the other, else what the rest says.
unfoldable pub decided : (less greater : Bool) → Ordering → Ordering
decided true greater rest = Less
decided false true rest = Greater
decided false false rest = rest

-- How one list of bytes stands to another. The first bytes that differ decide; where one list is the beginning of the other,
-- the shorter is below.
unfoldable pub compared : List ℕ → List ℕ → Ordering
compared [] [] = Equal
compared [] (y ∷ b) = Less
compared (x ∷ a) [] = Greater
compared (x ∷ a) (y ∷ b) = decided (ltb x y) (ltb y x) (compared a b)

-- Whether an answer is below.
abbrev pub is_below : Ordering → Bool
is_below Less = true
is_below Equal = false
is_below Greater = false

-- Whether an answer is equal.
abbrev pub is_equal : Ordering → Bool
is_equal Less = false
is_equal Equal = true
is_equal Greater = false

-- Whether an answer is above.
abbrev pub is_above : Ordering → Bool
is_above Less = false
is_above Equal = false
is_above Greater = true
