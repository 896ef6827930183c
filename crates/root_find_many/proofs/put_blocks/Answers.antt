-- `root_find_many::put_blocks`: the walk, with the entries after the blocks so far.
use mathlib.Core.Path.{◌≡◌, ap, ◌∙◌}
use mathlib.Core.List.{List, ◌∷◌}
use Prim.Native.Nat.{ℕ, ◌+◌, ◌-◌, ◌<◌, ◌≤◌}
use native.Mathlib.Omega.{arith}
use lib.ListN.{length, take, drop, length-drop}
use Rattle.root_layout.specs.declared.Layout.{Layout}
use Rattle.root_block.specs.declared.Block.{Block}
use Rattle.parts.proofs.Laws.{part_to_end}
use Rattle.refusal.specs.Check.{silent}
use Rattle.root_block.specs.Block.{block_of, block_size, block_check}
use Rattle.root_block.proofs.Laws.{block-fits}
use Rattle.root.specs.Root.{size_at, blocks_after}
use Rattle.root.proofs.Walk.{Walk, size-some, walk_here, walk_end}
use Rattle.root_find_many.proofs.Laid.{kept_on, kept-room}
use Rattle.root_find_many.proofs.Seen.{Unseen, unseen-passed, unseen-next, unseen-none}
use Rattle.root_find_many.proofs.put_blocks.Goals as goal

-- the block at hand: the entries before it, that it passes, and where it ends
module _ (s : List ℕ) (l : Layout) (locale unwanted : ℕ) (ids out : List ℕ) (at : ℕ) where
  module _ (h : at < length s) (w : Walk s l (Unseen s l locale unwanted ids out) at) where
    here : Unseen s l locale unwanted ids out (at ∷ blocks_after s l (at + size_at s l at))
    here = walk_here s l (Unseen s l locale unwanted ids out) at h w

    passed : block_check l (drop at s) at ≡ silent
    passed = unseen-passed s l locale unwanted ids out at _ here

    inside : size_at s l at ≤ length s - at
    inside = rw (← length-drop at s) (block-fits _ _ at passed)

moved : (s : List ℕ) (l : Layout) (at size : ℕ) (k : Block) → size ≡ block_size l k → k ≡ block_of l (take (length s - at) (drop at s)) → size ≡ size_at s l at
moved s l at size k e f = e ∙ ap (block_size l) (f ∙ ap (block_of l) (part_to_end at s))

pub put_block-requires : goal.put_block-requires
put_block-requires c =
    let a = c.args in
    let p = passed a.file.now a.l a.locale a.unwanted a.ids.now c.loop-at.output c.loop-at.at c.loop-at-test.true c.loop-at.invariant.1 in
    record { at_in_bounds = (c.loop-at-test.true, p); rising = c.requires.rising; room = kept-room c.requires.room c.loop-at.invariant.0 }

pub overflow_add-at : goal.overflow_add-at
overflow_add-at c =
    let a = c.args in
    let at = c.loop-at.at in
    let m = moved a.file.now a.l at c.size-at.result c.read.result c.size-at.ensures c.read.ensures in
    let i = inside a.file.now a.l a.locale a.unwanted a.ids.now c.loop-at.output at c.loop-at-test.true c.loop-at.invariant.1 in
    record { fits = omega (arith, m, i, c.loop-at-test.true, c.well_formed) }

pub loop-at-smaller : goal.loop-at-smaller
loop-at-smaller c =
    let a = c.args in
    let at = c.loop-at.at in
    let m = moved a.file.now a.l at c.size-at.result c.read.result c.size-at.ensures c.read.ensures in
    omega (arith, c.loop-at-test.true, m, size-some a.file.now a.l at)

pub loop-at-preserved : goal.loop-at-preserved
loop-at-preserved c =
    let a = c.args in
    let at = c.loop-at.at in
    let old = c.loop-at.output in
    let put = c.put_block in
    let m = moved a.file.now a.l at c.size-at.result c.read.result c.size-at.ensures c.read.ensures in
    let h = here a.file.now a.l a.locale a.unwanted a.ids.now old at c.loop-at-test.true c.loop-at.invariant.1 in (
      kept_on c.loop-at.invariant.0 put.ensures.kept,
      rw m (record { here = unseen-next a.file.now a.l a.locale a.unwanted a.ids.now old _ at _ h put.ensures.block_put }),
    )

pub shape_of-output : goal.shape_of-output
shape_of-output c = c.loop-at.invariant.0.size

pub returns : goal.returns
returns c =
    let a = c.args in
    let l = c.loop-at in
    let P = Unseen a.file.now a.l a.locale a.unwanted a.ids.now l.output in
    let w = walk_end a.file.now a.l P l.at c.loop-at-test.false l.invariant.1 in
    record { kept = l.invariant.0; held = unseen-none a.file.now a.l a.locale a.unwanted a.ids.now l.output w }
