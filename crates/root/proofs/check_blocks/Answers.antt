-- `root::check_blocks`: the walk, with the check of the blocks that are left.
use mathlib.Core.Path.{◌≡◌, refl, sym, ap, ◌∙◌}
use mathlib.Core.List.{List}
use Prim.Native.Nat.{ℕ, ◌-◌, ◌≤◌}
use native.Mathlib.Omega.{arith}
use lib.ListN.{length, drop, take, length-drop}
use Rattle.std.proofs.lemmas.Result.{err_from_is_err_and}
use Rattle.parts.proofs.Laws.{part_to_end}
use Rattle.refusal.specs.Check.{Check, silent}
use Rattle.root_layout.specs.declared.Layout.{Layout}
use Rattle.root_block.specs.declared.Block.{Block}
use Rattle.root_block.specs.Block.{block_of, block_size, block_check}
use Rattle.root_block.proofs.Laws.{block-fits}
use Rattle.root.specs.Root.{size_at}
use Rattle.root.proofs.Walk.{walk_start, size-some, walk_here, walk-next, walk_end, Unchecked, check-refused, check-passed, check-all}
use Rattle.root.proofs.check_blocks.Goals as goal

-- the block at hand, and its bytes as they are lent
module _ (s : List ℕ) (l : Layout) (at : ℕ) where
  abbrev lent : List ℕ
  lent = take (length s - at) (drop at s)

  -- what its check says
  judged : {k : Check} → k ≡ block_check l lent at → block_check l (drop at s) at ≡ k
  judged e = sym (e ∙ ap (λ b. block_check l b at) (part_to_end at s))

  moved : (size : ℕ) (k : Block) → size ≡ block_size l k → k ≡ block_of l lent → size ≡ size_at s l at
  moved size k e f = e ∙ ap (block_size l) (f ∙ ap (block_of l) (part_to_end at s))

  inside : block_check l (drop at s) at ≡ silent → size_at s l at ≤ length s - at
  inside p = rw (← length-drop at s) (block-fits _ _ at p)

pub loop-place-init : goal.loop-place-init
loop-place-init c = walk_start _ _ (Unchecked _ _) refl

pub returns-in_err-check : goal.returns-in_err-check
returns-in_err-check c =
    let s = c.args.file.now in
    let l = c.args.l in
    let at = c.loop-place.place in
    let p = err_from_is_err_and c.from_residual.result c.from_residual.ensures.1 in
    let w = walk_here s l (Unchecked s l) at c.loop-place-test.true c.loop-place.invariant in
    rw (p.1, p.2) (sym (check-refused s l at _ w (judged s l at c.in_err-check.ensures)))

pub overflow_add-place : goal.overflow_add-place
overflow_add-place c =
    let s = c.args.file.now in
    let l = c.args.l in
    let at = c.loop-place.place in
    let m = moved s l at c.size-place.result c.read.result c.size-place.ensures c.read.ensures in
    record { fits = omega (arith, m, inside s l at (judged s l at c.in_ok-check.ensures), c.well_formed) }

pub loop-place-smaller : goal.loop-place-smaller
loop-place-smaller c =
    let s = c.args.file.now in
    let l = c.args.l in
    let at = c.loop-place.place in
    let m = moved s l at c.size-place.result c.read.result c.size-place.ensures c.read.ensures in
    omega (arith, c.loop-place-test.true, m, size-some s l at)

pub loop-place-preserved : goal.loop-place-preserved
loop-place-preserved c =
    let s = c.args.file.now in
    let l = c.args.l in
    let at = c.loop-place.place in
    let m = moved s l at c.size-place.result c.read.result c.size-place.ensures c.read.ensures in
    rw m
    (walk-next s l (Unchecked s l) at c.loop-place-test.true c.loop-place.invariant
    (λ rest. check-passed s l at rest (judged s l at c.in_ok-check.ensures)))

pub returns : goal.returns
returns c = sym (check-all _ _ (walk_end _ _ (Unchecked _ _) _ c.loop-place-test.false c.loop-place.invariant))
