-- The entries in the output while it is filled: what private functions require and ensure; no rule of its own.
use Rattle.std.specs.Prelude.{◌≡◌, true, ◌&&◌, cond, List, [], ◌∷◌, ◌++◌, ℕ, ◌*◌, ◌<◌, ◌≤◌, eqb, length, drop}
use Rattle.parts.specs.Part.{byte_at, part_at}
use Rattle.refusal.specs.Check.{silent}
use Rattle.refusal.specs.Outcome.{answered}
use Rattle.id_list.specs.Ids.{id_count, id_at}
use Rattle.root_layout.specs.declared.Layout.{Layout}
use Rattle.root_block.specs.declared.Block.{Block}
use Rattle.root_block.specs.Block.{block_of, deltas_of, block_check, counts}
use Rattle.root.specs.Lookup.{Record, records_from, wanted, found_among}
use Rattle.root_find_many.specs.Many.{entry_size, entry_for}

-- Entry j of the output.
abbrev pub entry_at : List ℕ → ℕ → List ℕ
entry_at out j = part_at out (j * entry_size) entry_size

-- The output has an entry for each id.
pub record Room (ids out : List ℕ) : Type 0 where
  pub room : entry_size * id_count ids ≤ length out

-- Each id's entry is what f gives for it.
pub record Held (ids out : List ℕ) (f : ℕ → List ℕ) : Type 0 where
  pub each : (j : ℕ) → j < id_count ids → entry_at out j ≡ f (id_at ids j)

-- Each id's entry e becomes turn id e.
pub record Turned (ids old new : List ℕ) (turn : ℕ → List ℕ → List ℕ) : Type 0 where
  pub held : (f : ℕ → List ℕ) → Held ids old f → Held ids new (λ x. turn x (f x))

-- What is behind the entries stays.
pub record Kept (ids old new : List ℕ) : Type 0 where
  pub size : length new ≡ length old
  pub rest : drop (entry_size * id_count ids) new ≡ drop (entry_size * id_count ids) old

-- The entry of a record whose key stands at a place.
abbrev pub found_entry : List ℕ → ℕ → List ℕ
found_entry s at = entry_for s (answered (at ∷ []))

-- The entry e of an id after a record with the id `sought`: the first match stays.
unfoldable pub turned : (entry : List ℕ) → (sought id : ℕ) → (e : List ℕ) → List ℕ
turned entry sought id e = cond (eqb id sought && eqb (byte_at e 0) 0) entry e

-- The entry of an id after these records.
unfoldable pub entry_by : List ℕ → (locale unwanted : ℕ) → List Record → ℕ → List ℕ
entry_by s locale unwanted seen id = entry_for s (found_among (wanted id locale unwanted) seen)

-- The block at a byte passes its check; its header and its deltas.
pub record BlockAt (s : List ℕ) (l : Layout) (at : ℕ) (k : Block) (d : List ℕ) : Type 0 where
  pub inside : at < length s
  pub passes : block_check l (drop at s) at ≡ silent
  pub header : k ≡ block_of l (drop at s)
  pub deltas : d ≡ deltas_of l (drop at s)

-- Entries after some records become those after the records of the block at a byte too.
pub record BlockPut (s : List ℕ) (l : Layout) (at locale unwanted : ℕ) (ids old new : List ℕ) : Type 0 where
  pub held : (seen : List Record) → Held ids old (entry_by s locale unwanted seen)
      → Held ids new (entry_by s locale unwanted (seen ++ records_from s l at 0 (block_of l (drop at s)).count))

-- The same for whatever locale and unwanted bits the block counts.
pub record CountedPut (s : List ℕ) (l : Layout) (at : ℕ) (k : Block) (ids old new : List ℕ) : Type 0 where
  pub put : (locale unwanted : ℕ) → counts locale unwanted k ≡ true → BlockPut s l at locale unwanted ids old new
