-- The ids of a block, from the bytes d of its deltas: rules R9, R10 and R12.
use Rattle.std.specs.Prelude.{Bool, false, not, cond, List, ℕ, zero, suc, ◌*◌, ltb, leb, ℤ, pos, negsuc, ◌+ℤ◌, ◌-ℤ◌}
use Rattle.numbers.specs.Number.{little_at}
use Rattle.refusal.specs.Check.{Check, refused_if, first_from}
use Rattle.refusal.specs.Number.{id_range}

-- The bytes of a delta.
abbrev pub delta_size : ℕ
delta_size = 4

-- A delta is a signed number of 32 bits: from the sign bit on, a number x stands for x less 2^32 (rule R9).
abbrev pub sign_bit : ℕ
sign_bit = 2147483648

abbrev pub modulus : ℕ
modulus = 4294967296

unfoldable pub signed : ℕ → ℤ
signed x = cond (ltb x sign_bit) (pos x) (pos x -ℤ pos modulus)

unfoldable pub delta_at : List ℕ → ℕ → ℤ
delta_at d i = signed (little_at d (delta_size * i) delta_size)

-- The first id is the first delta; each next id is the one before, plus 1, plus the delta, in whole numbers (rules R10, G7).
unfoldable pub id_at : List ℕ → ℕ → ℤ
id_at d zero = delta_at d 0
id_at d (suc i) = id_at d i +ℤ pos 1 +ℤ delta_at d (suc i)

-- An id must be 0 to 4,294,967,295 (rule R10).
abbrev pub most_id : ℕ
most_id = 4294967295

unfoldable pub in_range : ℤ → Bool
in_range (pos n) = leb n most_id
in_range (negsuc n) = false

-- 41: one of the n ids outside its range. The place is the block's (rule R12).
unfoldable pub id_check : List ℕ → ℕ → ℕ → Check
id_check d place i = refused_if (not (in_range (id_at d i))) id_range place

unfoldable pub ids_check : List ℕ → ℕ → ℕ → Check
ids_check d n place = first_from (id_check d place) 0 n
