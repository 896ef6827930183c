-- The entries after the records that were seen so far: record after record in a block, and block after block.
use mathlib.Core.Path.{◌≡◌, refl, sym, ap, ap₂, ◌∙◌, subst}
use mathlib.Core.Bool.{Bool, true, false, ◌&&◌, cond, and-false, false≢true}
use mathlib.Core.List.{List, [], ◌∷◌, ◌++◌, append_assoc, append-nil}
use Prim.Native.Nat.{ℕ, zero, suc, ◌+◌, ◌-◌, ◌*◌, ◌≤◌, ◌<◌}
use native.Mathlib.Nat.{add-zero, zero-add}
use native.Mathlib.Numerals.{add-one}
use native.Mathlib.Omega.{arith}
use lib.Dec.{T, eqb}
use lib.IntN.{ℤ, pos, negsuc, nat_abs, ◌+ℤ◌}
use lib.ListN.{length, drop, length-drop}
use lib.Signed.{mag, non_neg}
use mir.Syntax.{w32, w64}
use mir.Val.{Fits, SFits, to_z, of_z}
use mir.Facts.{to_z-of_z}
use borrow.Author.Tests.{eq-eqb, ne_eqb, eqb-true, eqb-false}
use Rattle.parts.proofs.Laws.{by-test}
use Rattle.refusal.specs.Check.{silent}
use Rattle.refusal.proofs.Laws.{first-left, first-right}
use Rattle.root_layout.specs.declared.Layout.{Layout}
use Rattle.root_block.specs.Ids.{delta_at, in_range}
use Rattle.root_block.specs.Block as block
use Rattle.root_block.specs.Block.{block_of, deltas_of, block_check, counts}
use Rattle.root_block.specs.declared.Block.{Block}
use Rattle.root_block.proofs.Laws.{block-fits, deltas-length, key-inside}
use Rattle.root_block.proofs.Signed.{reckoned, range-fits}
use Rattle.root_block.proofs.Reckoned.{id_before}
use Rattle.root.specs.Root.{size_at, blocks_by, blocks_check}
use Rattle.root.specs.Lookup.{Record, record_at, records_from, records_in, records_by, First, none, this, first_of, is_id, wanted, key_told, key_or}
use Rattle.root.proofs.First.{block-skipped, uncounted, before-fits, record-fits, record-in-range, next-is, next-before}
use Rattle.root_find_many.specs.Many.{found_flag, entry_for}
use Rattle.root_find_many.specs.Entries.{Held, Kept, found_entry, turned, entry_by, BlockAt, BlockPut}
use Rattle.root_find_many.proofs.Laid.{kept_same, kept_on}

-- ---- the first match

-- The first record, or the other where there is none.
unfoldable or_else : First → First → First
or_else none f = f
or_else (this r) f = this r

or-cond : (t : Bool) (r : Record) (a b : First) → cond t (this r) (or_else a b) ≡ or_else (cond t (this r) a) b
unfolding or_else
or-cond true r a b = refl
or-cond false r a b = refl

found-append : (want : Record → Bool) (a b : List Record) → first_of want (a ++ b) ≡ or_else (first_of want a) (first_of want b)
unfolding first_of or_else
found-append want [] b = refl
found-append want (r ∷ a) b =
    ap (cond (want r) (this r)) (found-append want a b) ∙ or-cond (want r) r (first_of want a) (first_of want b)

or-none : (f : First) → or_else f none ≡ f
unfolding or_else
or-none none = refl
or-none (this r) = refl

-- a match puts an entry where there was none
entry-one : (s : List ℕ) (r : Record) (sought id : ℕ) (f : First) (t : Bool) → eqb id sought ≡ t
    → turned (found_entry s r.key) sought id (entry_for s (key_told f)) ≡ entry_for s (key_told (or_else f (cond t (this r) none)))
unfolding or_else turned entry_for found_flag key_or key_told
entry-one s r sought id (this q) t e = ap (λ u. cond u (found_entry s r.key) (entry_for s (key_told (this q)))) (and-false (eqb id sought))
entry-one s r sought id none true e = ap (λ u. cond (u && true) (found_entry s r.key) (entry_for s (key_told none))) e
entry-one s r sought id none false e = ap (λ u. cond (u && true) (found_entry s r.key) (entry_for s (key_told none))) e

-- ---- one record

same-turned : (a b : ℕ) → eqb a b ≡ eqb b a
same-turned a b =
    by-test (eqb b a) (λ t. eq-eqb a b (sym (eqb-true b a t)) ∙ sym t) (λ t. ne_eqb a b (λ e. eqb-false b a t (sym e)) ∙ sym t)

-- an id in its range, as the code holds it
is-id : (id : ℕ) (z : ℤ) → in_range z ≡ true → is_id id z ≡ eqb id (of_z w64 z)
unfolding is_id in_range
is-id id (pos n) e = same-turned n id
is-id id (negsuc n) e = absurd (false≢true e)

cast_is : (z : ℤ) → in_range z ≡ true → nat_abs z ≡ of_z w64 z
unfolding in_range
cast_is (pos n) e = refl
cast_is (negsuc n) e = absurd (false≢true e)

module _ (s : List ℕ) (locale unwanted : ℕ) (seen : List Record) (r : Record)
    (c : counts locale unwanted r.block ≡ true) (in-range : in_range r.id ≡ true) where
  entry_next : (id : ℕ)
      → turned (found_entry s r.key) (of_z w64 r.id) id (entry_by s locale unwanted seen id) ≡ entry_by s locale unwanted (seen ++ (r ∷ [])) id
  unfolding entry_by first_of wanted
  entry_next id =
      let want = wanted id locale unwanted in
      let test : (counts locale unwanted r.block && is_id id r.id) ≡ eqb id (of_z w64 r.id) =
      ap (λ t. t && is_id id r.id) c ∙ is-id id r.id in-range in
      entry-one s r (of_z w64 r.id) id (first_of want seen) (eqb id (of_z w64 r.id)) refl
      ∙ ap (λ t. entry_for s (key_told (or_else (first_of want seen) (cond t (this r) none)))) (sym test)
      ∙ ap (λ f. entry_for s (key_told f)) (sym (found-append want seen (r ∷ [])))

-- ---- one block

module _ (s : List ℕ) (l : Layout) (at : ℕ) where
  records-next : (i n : ℕ) → records_from s l at i (suc n) ≡ records_from s l at i n ++ (record_at s l at (i + n) ∷ [])
  unfolding records_from
  records-next i zero = ap (λ j. record_at s l at j ∷ []) (sym (add-zero i))
  records-next i (suc n) =
      let shift : suc i + n ≡ i + suc n = omega arith in
      ap (λ rs. record_at s l at i ∷ rs) (records-next (suc i) n ∙ ap (λ j. records_from s l at (suc i) n ++ (record_at s l at j ∷ [])) shift)

  records-first : (n : ℕ) → records_from s l at 0 (n + 1) ≡ records_from s l at 0 n ++ (record_at s l at n ∷ [])
  records-first n =
      ap (records_from s l at 0) (add-one n) ∙ records-next 0 n
      ∙ ap (λ j. records_from s l at 0 n ++ (record_at s l at j ∷ [])) (zero-add n)

-- Before record i of the block at a byte: the id before it, and each entry after the records before it.
pub record Passing (s : List ℕ) (l : Layout) (at i : ℕ) (last : ℤ) (ids old new : List ℕ) : Type 0 where
  pub before : last ≡ id_before (deltas_of l (drop at s)) i
  pub kept : Kept ids old new
  pub held : (locale unwanted : ℕ) → counts locale unwanted (block_of l (drop at s)) ≡ true
      → (seen : List Record) → Held ids old (entry_by s locale unwanted seen) → Held ids new (entry_by s locale unwanted (seen ++ records_from s l at 0 i))

held_same : {ids out : List ℕ} {f g : ℕ → List ℕ} → ((x : ℕ) → f x ≡ g x) → Held ids out f → Held ids out g
held_same e h = record { each = λ j l. h.each j l ∙ e _ }

module _ (s : List ℕ) (l : Layout) (at : ℕ) (ids old : List ℕ) where
  pub passing-none : Passing s l at 0 (negsuc 0) ids old old
  unfolding id_before records_from
  passing-none = record {
    before = refl;
    kept = kept_same ids old;
    held = λ locale unwanted t seen h. subst (λ rs. Held ids old (entry_by s locale unwanted rs)) (sym (append-nil seen)) h;
  }

  -- a block that does not count changes nothing
  pub none-counts : (locale unwanted : ℕ) → counts locale unwanted (block_of l (drop at s)) ≡ false → BlockPut s l at locale unwanted ids old old
  unfolding entry_by first_of
  none-counts locale unwanted c = record {
    held = λ seen.
        let records = records_from s l at 0 (block_of l (drop at s)).count in
        held_same (λ x. let want = wanted x locale unwanted in
        let skipped = ap (first_of want) (sym (append-nil records)) ∙ block-skipped s l want at (uncounted s l x locale unwanted at c) 0 _ [] in
        sym (ap (λ f. entry_for s (key_told f)) (found-append want seen records ∙ ap (or_else (first_of want seen)) skipped ∙ or-none (first_of want seen))));
  }

-- a block whose records are all seen
pub passing-all : {s : List ℕ} {l : Layout} {at i : ℕ} {last : ℤ} {ids old new : List ℕ} → Passing s l at i last ids old new
    → i ≡ (block_of l (drop at s)).count → (locale unwanted : ℕ) → counts locale unwanted (block_of l (drop at s)) ≡ true
    → BlockPut s l at locale unwanted ids old new
passing-all {s} {l} {at} {ids = ids} {new = new} p e locale unwanted t = record {
  held = λ seen h. subst (λ n. Held ids new (entry_by s locale unwanted (seen ++ records_from s l at 0 n))) e (p.held locale unwanted t seen h);
}

module _ {s : List ℕ} {l : Layout} {at i : ℕ} {ids old new : List ℕ} (last : ℕ) (p : Passing s l at i (to_z w64 last) ids old new)
    (e : block_check l (drop at s) at ≡ silent) (n : ℕ) (c : n ≡ (block_of l (drop at s)).count) (h : i < n)
    (r : ℤ) (small : mag r < 2147483648) where
  pub seen-fits : SFits w64 (to_z w64 last +ℤ pos 1)
  seen-fits = before-fits s l at n i last p.before e c h r small

  pub next_fits : SFits w64 (reckoned last r)
  next_fits = record-fits s l at n i last p.before e c h r small

  module _ (q : r ≡ delta_at (deltas_of l (drop at s)) i) where
    -- the id of the record, as the code holds it
    held-id : to_z w64 (of_z w64 (reckoned last r)) ≡ (record_at s l at i).id
    unfolding record_at
    held-id = to_z-of_z next_fits ∙ next-is s l at n i last p.before e c h r small q

    in-range : in_range (record_at s l at i).id ≡ true
    unfolding record_at
    in-range = record-in-range s l at n i last p.before e c h r small

    pub id-fits : T (non_neg (to_z w64 (of_z w64 (reckoned last r)))) × Fits w32 (nat_abs (to_z w64 (of_z w64 (reckoned last r))))
    id-fits = subst (λ z. T (non_neg z) × Fits w32 (nat_abs z)) (sym held-id) (range-fits _ in-range)

    record-id : nat_abs (to_z w64 (of_z w64 (reckoned last r))) ≡ of_z w64 (record_at s l at i).id
    record-id = ap nat_abs held-id ∙ cast_is _ in-range

    pub passing-next : (key id : ℕ) (out : List ℕ)
        → key ≡ at + block.key_at l (block_of l (drop at s)) i → id ≡ nat_abs (to_z w64 (of_z w64 (reckoned last r))) → Kept ids new out
        → ((f : ℕ → List ℕ) → Held ids new f → Held ids out (λ x. turned (found_entry s key) id x (f x)))
        → Passing s l at (i + 1) (to_z w64 (of_z w64 (reckoned last r))) ids old out
    unfolding record_at
    passing-next key id out k g kept turn = record {
      before = next-before s l at n i last p.before e c h r small q;
      kept = kept_on p.kept kept;
      held = λ locale unwanted t seen first.
          let before = seen ++ records_from s l at 0 i in
          let rec = record_at s l at i in
          let records : before ++ (rec ∷ []) ≡ seen ++ records_from s l at 0 (i + 1) =
          append_assoc seen (records_from s l at 0 i) (rec ∷ [])
          ∙ ap (λ rs. seen ++ rs) (sym (records-first s l at i)) in
          held_same
          (λ x. ap₂ (λ k j. turned (found_entry s k) j x (entry_by s locale unwanted before x)) k (g ∙ record-id)
          ∙ entry_next s locale unwanted before rec t in-range x ∙ ap (λ rs. entry_by s locale unwanted rs x) records)
          (turn (entry_by s locale unwanted before) (p.held locale unwanted t seen first));
    }

-- what is known of the block at a byte
module _ {s : List ℕ} {l : Layout} {at : ℕ} {k : Block} {d : List ℕ} (b : BlockAt s l at k d) where
  pub block-count : k.count ≡ (block_of l (drop at s)).count
  block-count = ap (λ x. x.count) b.header

  fits : size_at s l at ≤ length s - at
  fits = subst (λ n. size_at s l at ≤ n) (length-drop at s) (block-fits l (drop at s) at b.passes)

  pub deltas-long : length d ≡ 4 * k.count
  deltas-long = ap length b.deltas ∙ deltas-length l (drop at s) (block-fits l (drop at s) at b.passes) ∙ ap (λ n. 4 * n) (sym block-count)

  pub delta-of : (i : ℕ) (r : ℤ) → r ≡ delta_at d i → r ≡ delta_at (deltas_of l (drop at s)) i
  delta-of i r e = e ∙ ap (λ x. delta_at x i) b.deltas

  module _ (i key : ℕ) (e : key ≡ block.key_at l k i) where
    pub key_of : at + key ≡ at + block.key_at l (block_of l (drop at s)) i
    key_of = ap (λ x. at + x) (e ∙ ap (λ x. block.key_at l x i) b.header)

    pub key-whole : i < k.count → at + key + 16 ≤ length s
    key-whole h =
        let less : i < (block_of l (drop at s)).count = omega (arith, block-count) in
        omega (arith, key_of, key-inside l (block_of l (drop at s)) i less, fits, b.inside)

-- ---- block after block

-- These blocks pass the check, and each entry is that after the records of the blocks before them.
pub record Unseen (s : List ℕ) (l : Layout) (locale unwanted : ℕ) (ids out rest : List ℕ) : Type 0 where
  pub passes : blocks_check s l rest ≡ silent
  pub seen : List Record
  pub whole : records_by s l ≡ seen ++ records_in s l rest
  pub held : Held ids out (entry_by s locale unwanted seen)

module _ (s : List ℕ) (l : Layout) (locale unwanted : ℕ) (ids out : List ℕ) where
  pub unseen-passed : (at : ℕ) (rest : List ℕ) → Unseen s l locale unwanted ids out (at ∷ rest) → block_check l (drop at s) at ≡ silent
  unfolding blocks_check
  unseen-passed at rest u = first-left _ _ u.passes

  pub unseen-next : (new : List ℕ) (at : ℕ) (rest : List ℕ) → Unseen s l locale unwanted ids out (at ∷ rest)
      → BlockPut s l at locale unwanted ids out new → Unseen s l locale unwanted ids new rest
  unfolding blocks_check records_in
  unseen-next new at rest u turn = record {
    passes = first-right _ _ u.passes;
    seen = u.seen ++ records_from s l at 0 (block_of l (drop at s)).count;
    whole = u.whole ∙ sym (append_assoc u.seen (records_from s l at 0 (block_of l (drop at s)).count) (records_in s l rest));
    held = turn.held u.seen u.held;
  }

  pub unseen-none : Unseen s l locale unwanted ids out [] → Held ids out (entry_by s locale unwanted (records_by s l))
  unfolding records_in
  unseen-none u = subst (λ rs. Held ids out (entry_by s locale unwanted rs)) (sym (u.whole ∙ append-nil u.seen)) u.held
