-- `root::search`: the walk, with the records of the blocks that are left; in a block, the records that are left.
use mathlib.Core.Path.{◌≡◌, refl, sym, ap, ◌∙◌}
use mathlib.Core.Bool.{Bool}
use Rattle.std.specs.Prelude.{None}
use mathlib.Core.List.{List, [], ◌∷◌, ◌++◌}
use Prim.Native.Nat.{ℕ, ◌+◌, ◌-◌, ◌*◌, ◌<◌, ◌≤◌}
use native.Mathlib.Omega.{arith}
use lib.ListN.{length, drop, take, length-drop}
use Rattle.parts.proofs.Laws.{part_to_end}
use Rattle.refusal.specs.Check.{silent}
use Rattle.refusal.specs.Outcome.{answered}
use Rattle.root_layout.specs.declared.Layout.{Layout}
use Rattle.root_block.specs.declared.Block.{Block}
use Rattle.root_block.specs.Ids.{delta_at}
use Rattle.root_block.specs.Block as block
use Rattle.root_block.specs.Block.{block_of, block_size, deltas_of, block_check, counts}
use Rattle.root_block.proofs.Laws.{block-fits, deltas-length, key-inside}
use Rattle.root_block.proofs.Reckoned.{delta-is}
use Rattle.root.specs.Root.{size_at}
use Rattle.root.specs.Lookup.{Record, record_at, records_from, first_of, wanted, key_told, found_told}
use Rattle.root.proofs.Walk.{Walk, walk_start, size-some, walk_here, walk-next, walk_end}
use Rattle.root.proofs.First.{passing-none, passing-all, last_fits, next_fits, passing-next, passing-found, block-skipped}
use Rattle.root.proofs.First.{Unsearched, block-passed, found_here, search-on, search-ended, uncounted, number-other, number-found, key-laid}
use Rattle.root.proofs.search.Goals as goal
use Rattle.root.proofs.search.Goals.{then-counts+else-loop-i-test, else-counts}

-- ---- the block at hand: that it passes, its header, that it counts, its deltas

module _ (s : List ℕ) (l : Layout) (at : ℕ) where
  -- its bytes, as they are lent
  abbrev lent : List ℕ
  lent = take (length s - at) (drop at s)

  passed : (want : Record → Bool) → at < length s → Walk s l (Unsearched s l want) at → block_check l (drop at s) at ≡ silent
  passed want h w = block-passed s l want at _ (walk_here s l (Unsearched s l want) at h w)

  inside : block_check l (drop at s) at ≡ silent → size_at s l at ≤ length s - at
  inside p = rw (← length-drop at s) (block-fits _ _ at p)

  block-is : (k : Block) → k ≡ block_of l lent → k ≡ block_of l (drop at s)
  block-is k e = e ∙ ap (block_of l) (part_to_end at s)

  count-is : (k : Block) → k ≡ block_of l lent → k.count ≡ (block_of l (drop at s)).count
  count-is k e = ap (λ b. b.count) (block-is k e)

  moved : (size : ℕ) (k : Block) → size ≡ block_size l k → k ≡ block_of l lent → size ≡ size_at s l at
  moved size k q e = q ∙ ap (block_size l) (block-is k e)

  counted : (k : Block) → k ≡ block_of l lent → (locale unwanted : ℕ) (t : Bool) → t ≡ counts locale unwanted k
      → t ≡ counts locale unwanted (block_of l (drop at s))
  counted k e locale unwanted t q = q ∙ ap (counts locale unwanted) (block-is k e)

  deltas-are : (d : List ℕ) → d ≡ deltas_of l lent → d ≡ deltas_of l (drop at s)
  deltas-are d q = q ∙ ap (deltas_of l) (part_to_end at s)

  long : block_check l (drop at s) at ≡ silent → (k : Block) → k ≡ block_of l lent → (d : List ℕ) → d ≡ deltas_of l lent
      → length d ≡ 4 * k.count
  long p k e d q = ap length (deltas-are d q) ∙ deltas-length _ _ (block-fits _ _ at p) ∙ ap (λ n. 4 * n) (sym (count-is k e))

  -- the record at hand: the bytes of its delta are there
  delta-there : (want : Record → Bool) → at < length s → Walk s l (Unsearched s l want) at → (k : Block) → k ≡ block_of l lent
      → (d : List ℕ) → d ≡ deltas_of l lent → (i : ℕ) → i < k.count → 4 * i + 4 ≤ length d
  delta-there want h w k e d q i less = omega (arith, long (passed want h w) k e d q)

  -- where its key stands
  key-is : (key i : ℕ) (k : Block) → key ≡ block.key_at l k i → k ≡ block_of l lent → key ≡ block.key_at l (block_of l (drop at s)) i
  key-is key i k q e = q ∙ ap (λ b. block.key_at l b i) (block-is k e)

  key-whole : block_check l (drop at s) at ≡ silent → at < length s → (key i : ℕ) (k : Block) → i < k.count → key ≡ block.key_at l k i
      → k ≡ block_of l lent → at + key + 16 ≤ length s
  key-whole p h key i k less q e =
      let n = count-is k e in
      let whole = key-inside l (block_of l (drop at s)) i (omega arith) in
      omega (arith, key-is key i k q e, whole, inside p, h)

-- ---- the goals

pub blocks-2-init : goal.blocks-2-init
blocks-2-init c = (refl, walk_start _ _ (Unsearched _ _ _) (c.requires, refl))

pub loop-i-init : goal.loop-i-init
loop-i-init c = (c.blocks-2.invariant.0, passing-none _ _ _ _ _)

pub bounds-deltas-d : goal.bounds-deltas-d
bounds-deltas-d c =
    let want = wanted c.args.id c.args.locale c.args.unwanted in
    let there = delta-there _ _ _ want c.blocks-2-test.true c.blocks-2.invariant.1 _ c.read-block.ensures _ c.deltas-deltas.ensures in
    omega (arith, there c.loop-i.i c.loop-i-test.true)

pub bounds-deltas-d-in-loop-i : goal.bounds-deltas-d-in-loop-i
bounds-deltas-d-in-loop-i c =
    let want = wanted c.args.id c.args.locale c.args.unwanted in
    let there = delta-there _ _ _ want c.blocks-2-test.true c.blocks-2.invariant.1 _ c.read-block.ensures _ c.deltas-deltas.ensures in
    omega (arith, there c.loop-i.i c.loop-i-test.true)

pub bounds-deltas-d-in-loop-i-2 : goal.bounds-deltas-d-in-loop-i-2
bounds-deltas-d-in-loop-i-2 c =
    let want = wanted c.args.id c.args.locale c.args.unwanted in
    let there = delta-there _ _ _ want c.blocks-2-test.true c.blocks-2.invariant.1 _ c.read-block.ensures _ c.deltas-deltas.ensures in
    omega (arith, there c.loop-i.i c.loop-i-test.true)

pub bounds-deltas-d-in-loop-i-3 : goal.bounds-deltas-d-in-loop-i-3
bounds-deltas-d-in-loop-i-3 c =
    let want = wanted c.args.id c.args.locale c.args.unwanted in
    let there = delta-there _ _ _ want c.blocks-2-test.true c.blocks-2.invariant.1 _ c.read-block.ensures _ c.deltas-deltas.ensures in
    omega (arith, there c.loop-i.i c.loop-i-test.true)

pub overflow_add-last : goal.overflow_add-last
overflow_add-last c =
    let s = c.args.file.now in
    let l = c.args.l in
    let at = c.blocks-2.at in
    let p = passed s l at (wanted c.args.id c.args.locale c.args.unwanted) c.blocks-2-test.true c.blocks-2.invariant.1 in
    last_fits c.loop-i.last-bits c.loop-i.invariant.1 p (count-is s l at c.read-block.result c.read-block.ensures) c.loop-i-test.true
    c.delta-step.result c.delta-step.type_inv

pub overflow_add-last-in-loop-i : goal.overflow_add-last-in-loop-i
overflow_add-last-in-loop-i c =
    let s = c.args.file.now in
    let l = c.args.l in
    let at = c.blocks-2.at in
    let p = passed s l at (wanted c.args.id c.args.locale c.args.unwanted) c.blocks-2-test.true c.blocks-2.invariant.1 in
    rw c.from.ensures
    (next_fits c.loop-i.last-bits c.loop-i.invariant.1 p (count-is s l at c.read-block.result c.read-block.ensures) c.loop-i-test.true
    c.delta-step.result c.delta-step.type_inv)

pub overflow_add-place : goal.overflow_add-place
overflow_add-place c =
    let s = c.args.file.now in
    let l = c.args.l in
    let at = c.blocks-2.at in
    let p = passed s l at (wanted c.args.id c.args.locale c.args.unwanted) c.blocks-2-test.true c.blocks-2.invariant.1 in
    let whole =
    key-whole s l at p c.blocks-2-test.true c.key_at.result c.loop-i.i c.read-block.result c.loop-i-test.true c.key_at.ensures.value c.read-block.ensures in
    record { fits = omega (arith, whole, c.well_formed) }

pub loop-i-preserved : goal.loop-i-preserved
loop-i-preserved c =
    let s = c.args.file.now in
    let l = c.args.l in
    let at = c.blocks-2.at in
    let e = passed s l at (wanted c.args.id c.args.locale c.args.unwanted) c.blocks-2-test.true c.blocks-2.invariant.1 in
    let n = count-is s l at c.read-block.result c.read-block.ensures in
    let here =
    sym (counted s l at c.read-block.result c.read-block.ensures c.args.locale c.args.unwanted c.counts.result c.counts.ensures) ∙ c.if-counts.true in
    let deltas = deltas-are s l at c.deltas-deltas.result.now c.deltas-deltas.ensures in
    let i = c.loop-i.i in
    let step-is = delta-is _ i (4 * i) c.delta-step.result refl c.delta-step.ensures ∙ ap (λ x. delta_at x i) deltas in
    let p = c.loop-i.invariant.1 in
    let less = c.loop-i-test.true in
    let other = rw (c.from.ensures, c.from-sought.ensures) at c.if-last-sought.false in (
      c.loop-i.invariant.0,
      rw c.from.ensures
          (passing-next c.loop-i.last-bits p e n less c.delta-step.result c.delta-step.type_inv step-is
          (number-other c.loop-i.last-bits p e n less c.delta-step.result c.delta-step.type_inv step-is _ _ _ here other)),
    )

pub overflow_add-at : goal.overflow_add-at
overflow_add-at c =
    let s = c.args.file.now in
    let l = c.args.l in
    let at = c.blocks-2.at in
    let p = passed s l at (wanted c.args.id c.args.locale c.args.unwanted) c.blocks-2-test.true c.blocks-2.invariant.1 in
    let m = moved s l at c.size-at.result c.read-block.result c.size-at.ensures c.read-block.ensures in
    record { fits = omega (arith, m, inside s l at p, c.blocks-2-test.true, c.well_formed) }

pub blocks-2-smaller : goal.blocks-2-smaller
blocks-2-smaller c =
    let s = c.args.file.now in
    let l = c.args.l in
    let at = c.blocks-2.at in
    let m = moved s l at c.size-at.result c.read-block.result c.size-at.ensures c.read-block.ensures in
    omega (arith, c.blocks-2-test.true, m, size-some s l at)

-- the next block: none of the records of this one is wanted
pub blocks-2-preserved : goal.blocks-2-preserved
blocks-2-preserved c =
    let s = c.args.file.now in
    let l = c.args.l in
    let at = c.blocks-2.at in
    let k = c.read-block.result in
    let want = wanted c.args.id c.args.locale c.args.unwanted in
    let m = moved s l at c.size-at.result k c.size-at.ensures c.read-block.ensures in
    let counted-here = counted s l at k c.read-block.ensures c.args.locale c.args.unwanted c.counts.result c.counts.ensures in
    let n : (c.if-counts.found ≡ None) × ((tail : List Record) → first_of want (records_from s l at 0 k.count ++ tail) ≡ first_of want tail) =
    elim c.if-counts.branch [
      | then-counts+else-loop-i-test w ↦ (w.found-is ∙ w.loop-i.invariant.0, passing-all w.loop-i.invariant.1 (omega arith))
      | else-counts w ↦ (
        w.found-is ∙ c.blocks-2.invariant.0,
        block-skipped s l want at (uncounted _ _ _ _ _ _ (sym counted-here ∙ w.if-counts.false)) 0 _,
      )
    ] in (
      n.0,
      rw m
          (walk-next s l (Unsearched s l want) at c.blocks-2-test.true c.blocks-2.invariant.1
          (λ rest u. search-on s l want at rest u k.count (count-is s l at k c.read-block.ensures) n.1)),
    )

pub returns-after-blocks-2 : goal.returns-after-blocks-2
unfolding key_told
returns-after-blocks-2 c =
    let a = c.blocks-2.invariant.0 in
    let ended = search-ended _ _ _ (walk_end _ _ (Unsearched _ _ _) _ c.blocks-2-test.false c.blocks-2.invariant.1) in
    record { result_value = ap found_told a ∙ sym (ap key_told ended); key_value = rw a tt }

pub returns-then-last-sought : goal.returns-then-last-sought
unfolding key_told record_at
returns-then-last-sought c =
    let s = c.args.file.now in
    let l = c.args.l in
    let at = c.blocks-2.at in
    let i = c.loop-i.i in
    let k = c.read-block.result in
    let want = wanted c.args.id c.args.locale c.args.unwanted in
    let e = passed s l at want c.blocks-2-test.true c.blocks-2.invariant.1 in
    let n = count-is s l at k c.read-block.ensures in
    let here = sym (counted s l at k c.read-block.ensures c.args.locale c.args.unwanted c.counts.result c.counts.ensures) ∙ c.if-counts.true in
    let deltas = deltas-are s l at c.deltas-deltas.result.now c.deltas-deltas.ensures in
    let step-is = delta-is _ i (4 * i) c.delta-step.result refl c.delta-step.ensures ∙ ap (λ x. delta_at x i) deltas in
    let p = c.loop-i.invariant.1 in
    let less = c.loop-i-test.true in
    let w = walk_here s l (Unsearched s l want) at c.blocks-2-test.true c.blocks-2.invariant.1 in
    let same = rw (c.from.ensures, c.from-sought.ensures) at c.if-last-sought.true in
    let this-one = number-found c.loop-i.last-bits p e n less c.delta-step.result c.delta-step.type_inv step-is _ _ _ here same in
    let first = found_here s l want at _ w _ n ∙ passing-found c.loop-i.last-bits p e n less c.delta-step.result c.delta-step.type_inv this-one _ in
    let key = key-is s l at c.key_at.result i k c.key_at.ensures.value c.read-block.ensures in
    let whole = key-whole s l at e c.blocks-2-test.true c.key_at.result i k less c.key_at.ensures.value c.read-block.ensures in record {
      result_value = ap (λ k. answered ((at + k) ∷ [])) key ∙ sym (ap key_told first);
      key_value = c.key_from.ensures ∙ key-laid s (at + c.key_at.result) whole;
    }
