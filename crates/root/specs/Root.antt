-- The blocks of a root file s and its check: rules R6 and R13.
use Rattle.std.specs.Prelude.{◌≡◌, cond, List, [], ◌∷◌, ℕ, zero, suc, ◌+◌, ◌-◌, ◌≤◌, ◌<◌, ltb, length, drop}
use Rattle.refusal.specs.Check.{Check, silent, first}
use Rattle.refusal.specs.Outcome.{Outcome, answered, after}
use Rattle.root_layout.specs.declared.Layout.{Layout}
use Rattle.root_layout.specs.Header.{layout_of, header_check, layout_values}
use Rattle.root_block.specs.Block.{block_of, block_size, block_check}

-- The bytes of the block at byte `at`.
abbrev pub size_at : List ℕ → Layout → ℕ → ℕ
size_at s l at = block_size l (block_of l (drop at s))

-- Where the blocks stand from byte `at` on, n at most: each after the one before, up to the end of the file (rule R6).
unfoldable pub blocks_from : List ℕ → Layout → (at n : ℕ) → List ℕ
blocks_from s l at zero = []
blocks_from s l at (suc n) = cond (ltb at (length s)) (at ∷ blocks_from s l (at + size_at s l at) n) []

-- No block is empty, so there are no more of them than bytes.
abbrev pub blocks_after : List ℕ → Layout → ℕ → List ℕ
blocks_after s l at = blocks_from s l at (length s - at)

-- All blocks.
abbrev pub blocks_by : List ℕ → Layout → List ℕ
blocks_by s l = blocks_after s l l.start

-- The same without a bound, which proofs/Walk.antt proves: none at the end of the file, else one and those after it.
pub record BlocksRule (s : List ℕ) (l : Layout) : Type 0 where
  pub none : (at : ℕ) → length s ≤ at → blocks_after s l at ≡ []
  pub next : (at : ℕ) → at < length s → blocks_after s l at ≡ at ∷ blocks_after s l (at + size_at s l at)

-- Block by block 40, 41; the place is the block's byte offset (rules R12, R13).
unfoldable pub blocks_check : List ℕ → Layout → List ℕ → Check
blocks_check s l [] = silent
blocks_check s l (at ∷ rest) = first (block_check l (drop at s) at) (blocks_check s l rest)

-- The check of a whole file: 43, 44, 42, 43, then block by block 40, 41 (rule R13).
unfoldable pub root_check : List ℕ → Check
root_check s = first (header_check s) (blocks_check s (layout_of s) (blocks_by s (layout_of s)))

-- What a file that is judged so gives: how its blocks are laid out.
abbrev pub judged_outcome : List ℕ → Outcome
judged_outcome s = after (root_check s) (answered (layout_values (layout_of s)))
