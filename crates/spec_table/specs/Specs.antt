-- The spec table t of an encoding file: rule E13. Any bytes are answered for, also a table that ends with another byte than 0.
use Rattle.std.specs.Prelude.{◌≡◌, Bool, true, false, cond, List, [], ◌∷◌, ◌++◌, ℕ, zero, suc, ◌+◌, ◌<◌, eqb, ltb, length, get_or, drop}
use Rattle.parts.specs.Part.{byte_at, part_at}

-- Strings one after the other, each closed by a zero byte (rule E13).
unfoldable pub run_of : List (List ℕ) → List ℕ
run_of [] = []
run_of (string ∷ more) = string ++ (0 ∷ run_of more)

-- A byte in front of the strings behind it: a zero byte closes an empty one, another byte is the first of the next. With no
-- string behind it, it belongs to none.
unfoldable pub in_front : (closing : Bool) → ℕ → List (List ℕ) → List (List ℕ)
in_front true b more = [] ∷ more
in_front false b [] = []
in_front false b (string ∷ more) = (b ∷ string) ∷ more

-- The strings of a table: it is split at its zero bytes. Bytes behind the last zero byte belong to none (rule E13).
unfoldable pub strings : List ℕ → List (List ℕ)
strings [] = []
strings (b ∷ t) = in_front (eqb b 0) b (strings t)

-- The spec with a number, without its zero byte; empty where there is none. Numbers count from 0 (rule E13).
abbrev pub spec_of : List ℕ → ℕ → List ℕ
spec_of t n = get_or (strings t) n []

-- How many strings there are: the zero bytes.
unfoldable pub count_of : List ℕ → ℕ
count_of [] = 0
count_of (b ∷ t) = cond (eqb b 0) 1 0 + count_of t

-- Where string n begins: behind n zero bytes. The table's length where there is no such string.
unfoldable pub start_of : List ℕ → ℕ → ℕ
start_of [] n = 0
start_of (b ∷ t) zero = 0
start_of (b ∷ t) (suc n) = suc (start_of t (cond (eqb b 0) n (suc n)))

-- Where the part stands that is the spec with a number; the table's start where there is none.
unfoldable pub place_of : List ℕ → ℕ → ℕ
place_of t n = cond (ltb n (count_of t)) (start_of t n) 0

-- The bytes before the first zero byte; all where there is none.
unfoldable pub before_zero : List ℕ → ℕ
before_zero [] = 0
before_zero (b ∷ t) = cond (eqb b 0) 0 (suc (before_zero t))

-- The bytes from a place up to the next zero byte, or to the end.
unfoldable pub length_at : List ℕ → ℕ → ℕ
length_at t at = before_zero (drop at t)

-- A zero byte of the table stands there.
pub record Closed (t : List ℕ) (at : ℕ) : Type 0 where
  pub inside : at < length t
  pub zero_byte : byte_at t at ≡ 0

-- What holds of any table (proofs/Table.antt).
pub record SpecTable (t : List ℕ) : Type 0 where
  -- There are as many strings as zero bytes.
  pub counted : length (strings t) ≡ count_of t
  -- A spec is the part of the table from where it begins up to the next zero byte,
  pub part : (n : ℕ) → n < count_of t → part_at t (start_of t n) (length_at t (start_of t n)) ≡ spec_of t n
  -- and that byte is there.
  pub closed : (n : ℕ) → n < count_of t → Closed t (start_of t n + length_at t (start_of t n))

-- What holds of any strings without a zero byte: a run of them is split into them.
abbrev pub RunSplit : Type 0
RunSplit = (specs : List (List ℕ)) → ((n : ℕ) → count_of (get_or specs n []) ≡ 0) → strings (run_of specs) ≡ specs
