-- The record that is found in a root file that passes its check has its whole content key in the file.
use mathlib.Core.Path.{◌≡◌}
use mathlib.Core.Bool.{Bool}
use mathlib.Core.List.{List, [], ◌∷◌, ◌++◌}
use Prim.Native.Nat.{ℕ, zero, suc, ◌+◌, ◌≤◌}
use native.Mathlib.Omega.{arith}
use lib.ListN.{length, drop, length-drop}
use Rattle.refusal.specs.Check.{silent}
use Rattle.refusal.specs.Outcome.{answered}
use Rattle.refusal.proofs.Laws.{first-left, first-right}
use Rattle.parts.proofs.Laws.{by-test}
use Rattle.root_layout.specs.declared.Layout.{Layout}
use Rattle.root_block.specs.Block.{size_of_key, block_of, block_check}
use Rattle.root_block.proofs.Laws.{block-fits, key-inside}
use Rattle.root.specs.Root.{blocks_check}
use Rattle.root.specs.Lookup.{Record, record_at, records_from, records_in, first_of, key_told, found_among}

-- The values told of a record: the place of its key, which is whole.
pub record Whole (s values : List ℕ) : Type 0 where
  pub at : ℕ
  pub is : values ≡ at ∷ []
  pub inside : at + size_of_key ≤ length s

module _ (s : List ℕ) (l : Layout) (want : Record → Bool) (values : List ℕ) where
  -- one record, and those after it
  abbrev Tells : List Record → Type 0
  Tells rs = found_among want rs ≡ answered values → Whole s values

  one : (r : Record) (rs : List Record) → r.key + size_of_key ≤ length s → Tells rs → Tells (r ∷ rs)
  unfolding first_of key_told
  one r rs inside later f =
      by-test (want r)
      (λ t. let here : answered (r.key ∷ []) ≡ answered values = rw t at f in
      record { at = r.key; is = cc; inside = inside })
      (λ t. later (rw t at f))

  block : (at : ℕ) → block_check l (drop at s) at ≡ silent → (i n : ℕ) → i + n ≤ (block_of l (drop at s)).count
      → (rs : List Record) → Tells rs → Tells (records_from s l at i n ++ rs)
  unfolding records_from record_at
  block at e i zero h rs later = later
  block at e i (suc n) h rs later =
      let k = block_of l (drop at s) in
      one (record_at s l at i) (records_from s l at (suc i) n ++ rs)
      (omega (arith, key-inside l k i (omega arith), block-fits l (drop at s) at e, length-drop at s))
      (block at e (suc i) n (omega arith) rs later)

  pub found-whole : (blocks : List ℕ) → blocks_check s l blocks ≡ silent → Tells (records_in s l blocks)
  unfolding blocks_check records_in first_of key_told
  found-whole [] e f = absurd (let z : ◌≡◌ {A = ℕ} 0 1 = cc in omega arith)
  found-whole (at ∷ rest) e f =
      block at (first-left _ _ e) 0 (block_of l (drop at s)).count (omega arith) (records_in s l rest)
      (found-whole rest (first-right _ _ e)) f
