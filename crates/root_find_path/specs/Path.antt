-- The lookup of a path in a root file s: rules R22 and R23.
use Rattle.std.specs.Prelude.{Bool, ◌&&◌, List, [], ◌∷◌, ℕ, eqb, ℤ, pos, negsuc, Option, Some, None, Result, Ok, Err}
use Rattle.refusal.specs.declared.Refusal.{Refusal}
use Rattle.refusal.specs.Number.{number_of}
use Rattle.refusal.specs.Outcome.{Outcome, answered, absent, refusal, after}
use Rattle.name_hash.specs.NameHash.{name_hash, path_check}
use Rattle.root_layout.specs.declared.Layout.{Layout}
use Rattle.root_layout.specs.Header.{layout_of}
use Rattle.root_block.specs.declared.Block.{Block}
use Rattle.root_block.specs.Block.{block_has_hashes, counts}
use Rattle.root.specs.Root.{root_check}
use Rattle.root.specs.Lookup.{Record, records, First, none, this, first_of, key_at}
use Rattle.root_find_path.specs.declared.Found.{Found}

-- A block is searched if it counts and has name hashes (rule R22).
unfoldable pub is_searched : Layout → (locale unwanted : ℕ) → Block → Bool
is_searched l locale unwanted k = counts locale unwanted k && block_has_hashes l k

-- A record is wanted if its block is searched and its name hash is the sought one (rule R22).
unfoldable pub named : Layout → (hash locale unwanted : ℕ) → Record → Bool
named l hash locale unwanted r = is_searched l locale unwanted r.block && eqb r.hash hash

-- An id as a number. No id of a checked file is negative (rule R10).
unfoldable pub id_number : ℤ → ℕ
id_number (pos n) = n
id_number (negsuc n) = 0

-- What is told of the first wanted record: its id, and where its content key stands (rule R23).
unfoldable pub record_told : First → Outcome
record_told none = absent []
record_told (this r) = answered (id_number r.id ∷ r.key ∷ [])

-- The lookup of a name hash: the whole file is checked first (rule R22).
unfoldable pub hash_lookup : List ℕ → (hash locale unwanted : ℕ) → Outcome
hash_lookup s hash locale unwanted = after (root_check s) (record_told (first_of (named (layout_of s) hash locale unwanted) (records s)))

-- The lookup of a path: 110, then the lookup of its name hash (rule R22).
unfoldable pub path_lookup : (s path : List ℕ) → (locale unwanted : ℕ) → Outcome
path_lookup s path locale unwanted = after (path_check path) (hash_lookup s (name_hash path) locale unwanted)

-- The bytes beside an answer: the content key (rule R23), and other bytes where none is found (rules G13, S4).
unfoldable pub key_or : (s other : List ℕ) → Outcome → List ℕ
key_or s other (answered []) = other
key_or s other (answered (id ∷ [])) = other
key_or s other (answered (id ∷ at ∷ rest)) = key_at s at
key_or s other (absent values) = other
key_or s other (refusal number place) = other

-- What a search in the blocks tells: the id of the record, and where its key stands.
abbrev pub found_told : Option Found → Outcome
found_told (Some f) = answered (f.id ∷ f.at ∷ [])
found_told None = absent []

-- What the declared answers tell.
abbrev pub outcome : Result (Option Found) Refusal → Outcome
outcome (Ok found) = found_told found
outcome (Err r) = refusal (number_of r.reason) r.place
