-- `root_find_path::search`: the walk, with the records of the blocks that are left.
use mathlib.Core.Path.{◌≡◌, refl, sym, ap, ap₂, ◌∙◌}
use mathlib.Core.Bool.{Bool, true}
use mathlib.Core.List.{List, [], ◌∷◌, ◌++◌}
use Prim.Native.Nat.{ℕ, ◌+◌, ◌-◌, ◌≤◌, ◌<◌}
use native.Mathlib.Omega.{arith}
use lib.ListN.{length, take, drop, length-drop}
use Rattle.parts.proofs.Laws.{part_to_end}
use Rattle.refusal.specs.Check.{silent}
use Rattle.refusal.specs.Outcome.{answered}
use Rattle.root_layout.specs.declared.Layout.{Layout}
use Rattle.root_block.specs.Block as block
use Rattle.root_block.specs.declared.Block.{Block}
use Rattle.root_block.specs.Block.{block_has_hashes, block_of, block_size, deltas_of, block_check}
use Rattle.root_block.specs.Ids.{id_at, ids_check}
use Rattle.root_block.proofs.Laws.{block-fits, block-ids, deltas-length, key-inside}
use Rattle.root.specs.Root.{size_at, blocks_after}
use Rattle.root.specs.Lookup.{Record, record_at, records_from, first_of}
use Rattle.root.proofs.Walk.{Walk, walk_start, size-some, walk_here, walk-next, walk_end}
use Rattle.root.proofs.First.{Unsearched, block-passed, block-skipped, found_here, search-on, search-ended, key-laid}
use Rattle.root_find_path.specs.Path.{is_searched, named, id_number, record_told}
use Rattle.root_find_path.specs.Records.{Whole, FirstWith, Judged}
use Rattle.root_find_path.proofs.Laws.{searched-hashes, first-of, unsearched, block-found, block_none}
use Rattle.root_find_path.proofs.search.Goals as goal
use Rattle.root_find_path.proofs.search.Goals.{then-is_searched+in_default, else-is_searched}

-- ---- the block at hand: that it passes, its header, whether it is searched

module _ (s : List ℕ) (l : Layout) (at : ℕ) where
  -- its bytes, as they are lent
  abbrev lent : List ℕ
  lent = take (length s - at) (drop at s)

  abbrev block_at : Block
  block_at = block_of l (drop at s)

  module _ (want : Record → Bool) (h : at < length s) (w : Walk s l (Unsearched s l want) at) where
    left : Unsearched s l want (at ∷ blocks_after s l (at + size_at s l at))
    left = walk_here s l (Unsearched s l want) at h w

    passed : block_check l (drop at s) at ≡ silent
    passed = block-passed s l want at _ left

  inside : block_check l (drop at s) at ≡ silent → size_at s l at ≤ length s - at
  inside p = rw (← length-drop at s) (block-fits _ _ at p)

  module _ (k : Block) (e : k ≡ block_of l lent) where
    block-is : k ≡ block_at
    block-is = e ∙ ap (block_of l) (part_to_end at s)

    count-is : k.count ≡ block_at.count
    count-is = ap (λ b. b.count) block-is

    moved : (size : ℕ) → size ≡ block_size l k → size ≡ size_at s l at
    moved size q = q ∙ ap (block_size l) block-is

    searched-is : (locale unwanted : ℕ) (t : Bool) → t ≡ is_searched l locale unwanted k → t ≡ is_searched l locale unwanted block_at
    searched-is locale unwanted t q = q ∙ ap (is_searched l locale unwanted) block-is

    -- ---- a block that is searched: the first record with the name hash

    first-with : (hash r : ℕ) → FirstWith lent l k hash r → FirstWith (drop at s) l block_at hash r
    first-with hash r f = first-of (part_to_end at s) block-is f

    module _ (p : block_check l (drop at s) at ≡ silent) where
      whole : (locale unwanted : ℕ) → is_searched l locale unwanted block_at ≡ true → Whole lent l k
      whole locale unwanted t = record {
        hashes = ap (block_has_hashes l) block-is ∙ searched-hashes _ _ _ _ t;
        fits = omega (arith, ap length (part_to_end at s), ap (block_size l) block-is, block-fits _ _ at p);
      }

      -- ---- the record that is found: its deltas, its id, and where its key stands

      module _ (d : List ℕ) (q : d ≡ deltas_of l lent) where
        deltas-are : d ≡ deltas_of l (drop at s)
        deltas-are = q ∙ ap (deltas_of l) (part_to_end at s)

        judged : Judged d k.count
        judged = record {
          whole = omega (arith, ap length deltas-are, deltas-length _ _ (block-fits _ _ at p), count-is);
          place = at;
          passes = ap₂ (λ x n. ids_check x n at) deltas-are count-is ∙ block-ids _ _ at p;
        }

      module _ (i key : ℕ) (q : key ≡ block.key_at l k i) where
        key-is : key ≡ block.key_at l block_at i
        key-is = q ∙ ap (λ b. block.key_at l b i) block-is

        key-whole : at < length s → i < k.count → at + key + 16 ≤ length s
        key-whole h less =
            let there : i < block_at.count = omega (arith, less, count-is) in
            omega (arith, key-is, key-inside l block_at i there, inside p, h)

-- ---- the goals

pub loop-at-init : goal.loop-at-init
loop-at-init c = walk_start _ _ (Unsearched _ _ _) (c.requires, refl)

pub record_with-requires : goal.record_with-requires
record_with-requires c =
    let a = c.args in
    let s = a.file.now in
    let at = c.loop-at.at in
    let k = c.read-block.result in
    let p = passed s a.l at (named a.l a.hash a.locale a.unwanted) c.loop-at-test.true c.loop-at.invariant in
    let t = sym (searched-is s a.l at k c.read-block.ensures a.locale a.unwanted c.is_searched.result c.is_searched.ensures) ∙ c.if-is_searched.true in
    whole s a.l at k c.read-block.ensures p a.locale a.unwanted t

pub id_at-id-requires-clause-judged : goal.id_at-id-requires-clause-judged
id_at-id-requires-clause-judged c =
    let a = c.args in
    let s = a.file.now in
    let at = c.loop-at.at in
    let p = passed s a.l at (named a.l a.hash a.locale a.unwanted) c.loop-at-test.true c.loop-at.invariant in
    judged s a.l at c.read-block.result c.read-block.ensures p c.deltas.result.now c.deltas.ensures

pub overflow_add-place : goal.overflow_add-place
overflow_add-place c =
    let a = c.args in
    let s = a.file.now in
    let at = c.loop-at.at in
    let p = passed s a.l at (named a.l a.hash a.locale a.unwanted) c.loop-at-test.true c.loop-at.invariant in
    let key =
    key-whole s a.l at c.read-block.result c.read-block.ensures p c.in-Some.i c.key_at.result c.key_at.ensures.value c.loop-at-test.true c.in-Some.ensures.0 in
    record { fits = omega (arith, key, c.well_formed) }

pub returns-in-Some : goal.returns-in-Some
unfolding id_number record_told record_at
returns-in-Some c =
    let a = c.args in
    let s = a.file.now in
    let l = a.l in
    let at = c.loop-at.at in
    let k = c.read-block.result in
    let e = c.read-block.ensures in
    let i = c.in-Some.i in
    let want = named l a.hash a.locale a.unwanted in
    let p = passed s l at want c.loop-at-test.true c.loop-at.invariant in
    let t = sym (searched-is s l at k e a.locale a.unwanted c.is_searched.result c.is_searched.ensures) ∙ c.if-is_searched.true in
    let less : i < (block_at s l at).count = omega (arith, c.in-Some.ensures.0, count-is s l at k e) in
    let first = found_here s l want at _ (left s l at want c.loop-at-test.true c.loop-at.invariant) _ refl
    ∙ block-found _ _ _ _ _ _ t (first-with s l at k e a.hash i c.in-Some.ensures.1) less _ in
    let id = ap id_number (c.id_at-id.ensures ∙ ap (λ d. id_at d i) (deltas-are s l at k e p c.deltas.result.now c.deltas.ensures)) in
    let key = key-is s l at k e p i c.key_at.result c.key_at.ensures.value in
    let whole-key = key-whole s l at k e p i c.key_at.result c.key_at.ensures.value c.loop-at-test.true c.in-Some.ensures.0 in record {
      result_value = ap₂ (λ n x. answered (n ∷ (at + x) ∷ [])) id key ∙ sym (ap record_told first);
      key_value = c.key_from.ensures ∙ key-laid s (at + c.key_at.result) whole-key;
    }

pub overflow_add-at : goal.overflow_add-at
overflow_add-at c =
    let a = c.args in
    let s = a.file.now in
    let at = c.loop-at.at in
    let p = passed s a.l at (named a.l a.hash a.locale a.unwanted) c.loop-at-test.true c.loop-at.invariant in
    let m = moved s a.l at c.read-block.result c.read-block.ensures c.size-at.result c.size-at.ensures in
    record { fits = omega (arith, m, inside s a.l at p, c.loop-at-test.true, c.well_formed) }

pub loop-at-smaller : goal.loop-at-smaller
loop-at-smaller c =
    let s = c.args.file.now in
    let at = c.loop-at.at in
    let m = moved s c.args.l at c.read-block.result c.read-block.ensures c.size-at.result c.size-at.ensures in
    omega (arith, c.loop-at-test.true, m, size-some s c.args.l at)

-- the next block: none of the records of this one is wanted
pub loop-at-preserved : goal.loop-at-preserved
loop-at-preserved c =
    let a = c.args in
    let s = a.file.now in
    let l = a.l in
    let at = c.loop-at.at in
    let k = c.read-block.result in
    let e = c.read-block.ensures in
    let want = named l a.hash a.locale a.unwanted in
    let searched = searched-is s l at k e a.locale a.unwanted c.is_searched.result c.is_searched.ensures in
    let none : (tail : List Record) → first_of want (records_from s l at 0 (block_at s l at).count ++ tail) ≡ first_of want tail =
    elim c.if-is_searched.branch [
      | then-is_searched+in_default w ↦ block_none _ _ _ _ _ _ (sym searched ∙ w.if-is_searched.true)
          (first-with s l at k e a.hash k.count w.in_default.ensures) (omega (arith, count-is s l at k e))
      | else-is_searched w ↦ block-skipped s l want at (unsearched _ _ _ _ _ _ (sym searched ∙ w.if-is_searched.false)) 0 _
    ] in
    rw (moved s l at k e c.size-at.result c.size-at.ensures)
    (walk-next s l (Unsearched s l want) at c.loop-at-test.true c.loop-at.invariant
    (λ rest u. search-on s l want at rest u _ refl none))

pub returns-clause-result_value : goal.returns-clause-result_value
unfolding record_told
returns-clause-result_value c =
    sym (ap record_told (search-ended _ _ _ (walk_end _ _ (Unsearched _ _ _) _ c.loop-at-test.false c.loop-at.invariant)))
