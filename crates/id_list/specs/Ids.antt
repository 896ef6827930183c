-- A list of ids: numbers of four bytes, big-endian, that rise, with equal neighbours allowed: rule R18.
use Rattle.std.specs.Prelude.{not, List, ℕ, ◌-◌, ◌*◌, ◌/◌, ◌%◌, ltb, eqb, length}
use Rattle.numbers.specs.Number.{big_at}
use Rattle.refusal.specs.Check.{Check, refused_if, first, first_from}
use Rattle.refusal.specs.Number.{list_length, list_falls}

-- The bytes of an id.
abbrev pub id_size : ℕ
id_size = 4

-- How many ids a list has.
abbrev pub id_count : List ℕ → ℕ
id_count ids = length ids / id_size

-- Id i.
unfoldable pub id_at : List ℕ → ℕ → ℕ
id_at ids i = big_at ids (id_size * i) id_size

-- 12: the list is not whole ids.
abbrev pub whole_check : List ℕ → Check
whole_check ids = refused_if (not (eqb (length ids % id_size) 0)) list_length 0

-- 161: id i is below the one before; the place is i.
unfoldable pub fall_check : List ℕ → ℕ → Check
fall_check ids i = refused_if (ltb (id_at ids i) (id_at ids (i - 1))) list_falls i

-- 161 for the first such id.
abbrev pub rising_check : List ℕ → Check
rising_check ids = first_from (fall_check ids) 1 (id_count ids - 1)

-- The list: 12, 161.
unfoldable pub ids_check : List ℕ → Check
ids_check ids = first (whole_check ids) (rising_check ids)
