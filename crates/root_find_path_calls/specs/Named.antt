-- The lookup of a path finds exactly the first record, in file order, of all that have its name hash in a block that counts and has name
-- hashes, and nothing exactly where there is none: rules R22 and R23.
use Rattle.std.specs.Prelude.{◌≡◌, true, List, ℕ, pos, Option, Result, Ok, IfOk, IfSome}
use Rattle.refusal.specs.declared.Refusal.{Refusal}
use Rattle.refusal.specs.Check.{check_of}
use Rattle.name_hash.specs.NameHash as names
use Rattle.root_layout.specs.declared.Layout.{Layout}
use Rattle.root_layout.specs.Header.{layout_of}
use Rattle.root_block.specs.Block.{block_has_hashes, counts}
use Rattle.root.specs.Root.{root_check}
use Rattle.root.specs.Lookup as lookup
use Rattle.root.specs.Lookup.{records, First, this, key_at}
use Rattle.root_records.specs.Records.{FindsFirst}
use Rattle.root_find_path.specs.declared.Found.{Found}
use Rattle.root_find_path.specs.Path.{record_told, path_lookup, outcome}

-- A record of a block that counts and has name hashes, whose name hash is the sought one.
pub record Named (l : Layout) (hash locale unwanted : ℕ) (r : lookup.Record) : Type 0 where
  pub block_counts : counts locale unwanted r.block ≡ true
  pub has_hashes : block_has_hashes l r.block ≡ true
  pub same_hash : r.hash ≡ hash

-- Calls of the functions on a file and a path: what each answered, as its contract says, where the check passed and the path was hashed.
pub record Calls (s path : List ℕ) (hash locale unwanted : ℕ) : Type 0 where
  -- `root::check` answered `checked`, `name_hash::hash` answered `hashed`, and `root_find_path::find_path` answered `looked`.
  pub checked : Result Unit Refusal
  pub hashed : Result ℕ Refusal
  pub looked : Result (Option Found) Refusal
  pub check_ensures : check_of checked ≡ root_check s
  pub hash_ensures : names.outcome hashed ≡ names.hash_outcome path
  pub lookup_ensures : outcome looked ≡ path_lookup s path locale unwanted
  pub key_ensures : IfOk looked (λ found. IfSome found (λ f. f.key ≡ key_at s f.at))
  -- The premises.
  pub passed : checked ≡ Ok tt
  pub hash_is : hashed ≡ Ok hash

-- What holds of an answer, over the list of all records of the file.
pub record FindsPath (s : List ℕ) (hash locale unwanted : ℕ) (looked : Result (Option Found) Refusal) : Type 0 where
  -- The first wanted record of all.
  pub first : First
  pub finds_first : FindsFirst (Named (layout_of s) hash locale unwanted) (records s) first
  -- The answer tells its id and where its key stands, or absent; the key's bytes are those of the file there.
  pub told : outcome looked ≡ record_told first
  pub own_id : (r : lookup.Record) → first ≡ this r → IfOk looked (λ found. IfSome found (λ f. (r.id ≡ pos f.id) × (r.key ≡ f.at)))
  pub key : IfOk looked (λ found. IfSome found (λ f. f.key ≡ key_at s f.at))
