-- The records of a root file s and the lookup of a file number: rules R15 and R16.
use Rattle.std.specs.Prelude.{Bool, false, ◌&&◌, cond, List, [], ◌∷◌, ◌++◌, ℕ, zero, suc, ◌+◌, eqb, ℤ, pos, negsuc, drop, replicate}
use Rattle.std.specs.Prelude.{Option, Some, None, Result, Ok, Err}
use Rattle.parts.specs.Part.{part_at, overlay}
use Rattle.numbers.specs.Number.{little_at}
use Rattle.refusal.specs.Outcome.{Outcome, answered, absent, refusal, after}
use Rattle.root_layout.specs.declared.Layout.{Layout}
use Rattle.root_layout.specs.Header.{layout_of}
use Rattle.root_block.specs.declared.Block.{Block}
use Rattle.root_block.specs.Block as block
use Rattle.root_block.specs.Block.{size_of_key, name_hash_size, block_of, deltas_of, counts}
use Rattle.root_block.specs.Ids.{id_at}
use Rattle.root.specs.Root.{blocks_by, root_check}
use Rattle.root.specs.declared.Found.{Found}
use Rattle.refusal.specs.declared.Refusal.{Refusal}
use Rattle.refusal.specs.Number.{number_of}

-- A record: what its block's header says, with the locale and content flags; its id; where its content key stands in the file; its
-- name hash, little-endian, which means nothing where the block has no name hashes.
pub record Record : Type 0 where
  pub block : Block
  pub id : ℤ
  pub key : ℕ
  pub hash : ℕ

-- Record i of the block at byte `at`.
unfoldable pub record_at : List ℕ → Layout → (at i : ℕ) → Record
record_at s l at i = record {
  block = block_of l (drop at s);
  id = id_at (deltas_of l (drop at s)) i;
  key = at + block.key_at l (block_of l (drop at s)) i;
  hash = little_at s (at + block.hash_offset l (block_of l (drop at s)) i) name_hash_size;
}

unfoldable pub records_from : List ℕ → Layout → (at i n : ℕ) → List Record
records_from s l at i zero = []
records_from s l at i (suc n) = record_at s l at i ∷ records_from s l at (suc i) n

-- All records of the blocks at these bytes, in file order.
unfoldable pub records_in : List ℕ → Layout → List ℕ → List Record
records_in s l [] = []
records_in s l (at ∷ rest) = records_from s l at 0 (block_of l (drop at s)).count ++ records_in s l rest

-- All records of the file.
abbrev pub records_by : List ℕ → Layout → List Record
records_by s l = records_in s l (blocks_by s l)

abbrev pub records : List ℕ → List Record
records s = records_by s (layout_of s)

-- The first record, in file order, that a test takes.
pub data First : Type 0 where
  none : First
  this : Record → First

unfoldable pub first_of : (Record → Bool) → List Record → First
first_of want [] = none
first_of want (r ∷ rest) = cond (want r) (this r) (first_of want rest)

-- A record is wanted if its block counts and its id is the sought one (rule R15).
unfoldable pub is_id : ℕ → ℤ → Bool
is_id id (pos n) = eqb n id
is_id id (negsuc n) = false

unfoldable pub wanted : (id locale unwanted : ℕ) → Record → Bool
wanted id locale unwanted r = counts locale unwanted r.block && is_id id r.id

-- What the lookup of a file number tells of the first wanted record: where its key stands (rules R15, R16).
unfoldable pub key_told : First → Outcome
key_told none = absent []
key_told (this r) = answered (r.key ∷ [])

abbrev pub found_among : (Record → Bool) → List Record → Outcome
found_among want rs = key_told (first_of want rs)

-- The lookup: the whole file is checked first (rule R15).
unfoldable pub lookup_of : List ℕ → (id locale unwanted : ℕ) → Outcome
lookup_of s id locale unwanted = after (root_check s) (found_among (wanted id locale unwanted) (records s))

-- The content key at a place of the file.
abbrev pub key_at : List ℕ → ℕ → List ℕ
key_at s at = part_at s at size_of_key

-- The same by value: sixteen bytes, with zeros past the end of the file (rule G8).
abbrev pub key_from : List ℕ → ℕ → List ℕ
key_from s at = overlay (replicate size_of_key 0) 0 (key_at s at)

-- The bytes beside an answer: the content key (rule R16), and other bytes where none is found (rules G13, S4).
unfoldable pub key_or : (s other : List ℕ) → Outcome → List ℕ
key_or s other (answered []) = other
key_or s other (answered (at ∷ rest)) = key_at s at
key_or s other (absent values) = other
key_or s other (refusal number place) = other

-- What a search in the blocks tells: where the key stands.
abbrev pub found_told : Option Found → Outcome
found_told (Some f) = answered (f.at ∷ [])
found_told None = absent []

-- What the declared answers tell.
abbrev pub outcome : Result (Option Found) Refusal → Outcome
outcome (Ok found) = found_told found
outcome (Err r) = refusal (number_of r.reason) r.place
