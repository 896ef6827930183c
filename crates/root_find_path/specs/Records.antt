-- The records of one block, whose bytes are b: what private functions require and ensure; no rule of its own.
use Rattle.std.specs.Prelude.{◌≡◌, true, List, ℕ, ◌*◌, ◌≤◌, ◌<◌, length, Option, Some, None}
use Rattle.numbers.specs.Number.{little_at}
use Rattle.refusal.specs.Check.{silent}
use Rattle.root_layout.specs.declared.Layout.{Layout}
use Rattle.root_block.specs.declared.Block.{Block}
use Rattle.root_block.specs.Block.{name_hash_size, block_has_hashes, block_size, hash_offset}
use Rattle.root_block.specs.Ids.{delta_size, ids_check}

-- A block that is not cut and has name hashes.
pub record Whole (b : List ℕ) (l : Layout) (k : Block) : Type 0 where
  pub hashes : block_has_hashes l k ≡ true
  pub fits : block_size l k ≤ length b

-- The name hash of record i.
abbrev pub hash_of : List ℕ → Layout → Block → ℕ → ℕ
hash_of b l k i = little_at b (hash_offset l k i) name_hash_size

-- Record r is the first with a name hash; r is the count where no record has it.
pub record FirstWith (b : List ℕ) (l : Layout) (k : Block) (hash r : ℕ) : Type 0 where
  pub bound : r ≤ k.count
  pub others : (i : ℕ) → i < r → hash_of b l k i ≡ hash → ⊥
  pub here : r < k.count → hash_of b l k r ≡ hash

-- The first record with a name hash, or none where no record has it.
abbrev pub FoundWith : List ℕ → Layout → Block → ℕ → Option ℕ → Type 0
FoundWith b l k hash (Some r) = (r < k.count) × FirstWith b l k hash r
FoundWith b l k hash None = FirstWith b l k hash k.count

-- The deltas of n records whose ids are in range, as the check of their block found.
pub record Judged (d : List ℕ) (n : ℕ) : Type 0 where
  pub whole : delta_size * n ≤ length d
  pub place : ℕ
  pub passes : ids_check d n place ≡ silent
