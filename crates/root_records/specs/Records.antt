-- The first of all records that is wanted: a search finds exactly the first record, in file order, of all that are wanted, and nothing
-- exactly where none is. For the lookup of a file number, a record is wanted if its block counts and its id is the sought one: rules
-- R14 to R16.
use Rattle.std.specs.Prelude.{◌≡◌, Bool, true, ℕ, pos, Option, Result, Ok, IfOk, IfSome}
use mathlib.Core.List.{List, ◌∷◌, ◌++◌, Memᴰ}
use Rattle.refusal.specs.declared.Refusal.{Refusal}
use Rattle.refusal.specs.Check.{check_of}
use Rattle.root_block.specs.Block.{counts}
use Rattle.root.specs.declared.Found.{Found}
use Rattle.root.specs.Root.{root_check}
use Rattle.root.specs.Lookup.{Record, records, First, none, this, lookup_of, key_told, key_at, outcome}

-- ---- whatever is wanted of a record

-- A test takes exactly the records that are wanted.
pub record Decides (want : Record → Bool) (Wants : Record → Type 0) : Type 0 where
  pub taken : (r : Record) → want r ≡ true → Wants r
  pub takes : (r : Record) → Wants r → want r ≡ true

-- None of these records is wanted.
pub record NoneWanted (Wants : Record → Type 0) (rs : List Record) : Type 0 where
  pub not_one : (r : Record) → Memᴰ r rs → Wants r → ⊥

-- The first wanted one of these records.
pub record FirstWanted (Wants : Record → Type 0) (rs : List Record) (r : Record) : Type 0 where
  pub before : List Record
  pub after : List Record
  pub order : rs ≡ before ++ (r ∷ after)
  pub none_before : NoneWanted Wants before
  pub is_wanted : Wants r

-- What is found is the first wanted one of these records, and nothing where none is wanted: each in both directions.
pub record FindsFirst (Wants : Record → Type 0) (rs : List Record) (first : First) : Type 0 where
  pub found : (r : Record) → first ≡ this r → FirstWanted Wants rs r
  pub finds : (r : Record) → FirstWanted Wants rs r → first ≡ this r
  pub absent : first ≡ none → NoneWanted Wants rs
  pub absent_where : NoneWanted Wants rs → first ≡ none

-- ---- a file number

-- A record of a block that counts, whose id is the sought one.
pub record Wanted (id locale unwanted : ℕ) (r : Record) : Type 0 where
  pub block_counts : counts locale unwanted r.block ≡ true
  pub same_id : r.id ≡ pos id

-- Calls of the functions on a file: what each answered, as its contract says, where the check passed.
pub record Calls (s : List ℕ) (id locale unwanted : ℕ) : Type 0 where
  -- `root::check` answered `checked`, and `root::lookup` answered `looked`.
  pub checked : Result Unit Refusal
  pub looked : Result (Option Found) Refusal
  pub check_ensures : check_of checked ≡ root_check s
  pub lookup_ensures : outcome looked ≡ lookup_of s id locale unwanted
  pub key_ensures : IfOk looked (λ found. IfSome found (λ f. f.key ≡ key_at s f.at))
  -- The premise.
  pub passed : checked ≡ Ok tt

-- What holds of an answer, over the list of all records of the file.
pub record FindsNumber (s : List ℕ) (id locale unwanted : ℕ) (looked : Result (Option Found) Refusal) : Type 0 where
  -- The first wanted record of all.
  pub first : First
  pub finds_first : FindsFirst (Wanted id locale unwanted) (records s) first
  -- The answer tells where its key stands, or absent; the key's bytes are those of the file there.
  pub told : outcome looked ≡ key_told first
  pub key : IfOk looked (λ found. IfSome found (λ f. f.key ≡ key_at s f.at))
