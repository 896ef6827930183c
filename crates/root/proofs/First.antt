-- The search for the first wanted record: record after record in a block, and block after block.
use mathlib.Core.Path.{◌≡◌, refl, sym, ap, ◌∙◌}
use mathlib.Core.Bool.{Bool, true, false, ◌&&◌, cond, false≢true}
use mathlib.Core.List.{List, [], ◌∷◌, ◌++◌, append-nil}
use Prim.Native.Nat.{ℕ, zero, suc, ◌+◌, ◌-◌, ◌≤◌, ◌<◌}
use native.Mathlib.Nat.{sub-zero}
use native.Mathlib.Omega.{arith}
use lib.IntN.{ℤ, pos, negsuc, ◌+ℤ◌}
use lib.ListN.{length, drop, replicate}
use lib.Signed.{mag}
use mir.Syntax.{w64}
use mir.Val.{SFits, to_z, of_z}
use borrow.Author.Tests.{eq-eqb, ne_eqb}
use Rattle.parts.specs.Part.{part_at, overlay}
use Rattle.parts.proofs.Laws.{part_at-inside, overlay-inside}
use Rattle.refusal.specs.Check.{silent}
use Rattle.refusal.specs.Outcome.{Outcome, answered}
use Rattle.refusal.proofs.Laws.{first-left, first-right, after-quiet}
use Rattle.root_layout.specs.declared.Layout.{Layout}
use Rattle.root_layout.specs.Header.{layout_of}
use Rattle.root_block.specs.Ids.{delta_at, id_at, in_range, ids_check}
use Rattle.root_block.specs.Block.{block_of, deltas_of, block_check, counts}
use Rattle.root_block.proofs.Laws.{block-ids}
use Rattle.root_block.proofs.Signed.{reckoned}
use Rattle.root_block.proofs.Reckoned as ids
use Rattle.root_block.proofs.Reckoned.{id_before, id-in-range}
use Rattle.root.specs.Root.{blocks_by, blocks_check, root_check}
use Rattle.root.specs.Lookup.{Record, record_at, records_from, records_in, records_by, none, this, first_of}
use Rattle.root.specs.Lookup.{is_id, wanted, found_among, lookup_of, key_at, key_or}

-- ---- one record

module _ (want : Record → Bool) (r : Record) (rest : List Record) where
  pub not-wanted : want r ≡ false → first_of want (r ∷ rest) ≡ first_of want rest
  unfolding first_of
  not-wanted e = ap (λ t. cond t (this r) (first_of want rest)) e

  pub is_wanted : want r ≡ true → first_of want (r ∷ rest) ≡ this r
  unfolding first_of
  is_wanted e = ap (λ t. cond t (this r) (first_of want rest)) e

-- ---- one block

module _ (s : List ℕ) (l : Layout) (want : Record → Bool) (at : ℕ) where
  -- a block none of whose records is wanted
  pub block-skipped : ((i : ℕ) → want (record_at s l at i) ≡ false)
      → (i n : ℕ) (tail : List Record) → first_of want (records_from s l at i n ++ tail) ≡ first_of want tail
  unfolding records_from
  block-skipped e i zero tail = refl
  block-skipped e i (suc n) tail = not-wanted want (record_at s l at i) _ (e i) ∙ block-skipped e (suc i) n tail

-- Before record i of n: the id before it, and no record before it is wanted.
pub record Passing (s : List ℕ) (l : Layout) (want : Record → Bool) (at n i : ℕ) (last : ℤ) : Type 0 where
  pub before : last ≡ id_before (deltas_of l (drop at s)) i
  pub passed : (tail : List Record) → first_of want (records_from s l at 0 n ++ tail) ≡ first_of want (records_from s l at i (n - i) ++ tail)

pub passing-none : (s : List ℕ) (l : Layout) (want : Record → Bool) (at n : ℕ) → Passing s l want at n 0 (negsuc 0)
unfolding id_before
passing-none s l want at n = record { before = refl; passed = λ tail. rw sub-zero }

pub passing-all : {s : List ℕ} {l : Layout} {want : Record → Bool} {at n i : ℕ} {last : ℤ} → Passing s l want at n i last → i ≡ n
    → (tail : List Record) → first_of want (records_from s l at 0 n ++ tail) ≡ first_of want tail
unfolding records_from
passing-all {s} {l} {want} {at} {n} {i} p e tail =
    let nothing : n - i ≡ 0 = omega arith in
    p.passed tail ∙ ap (λ m. first_of want (records_from s l at i m ++ tail)) nothing

-- the id of record i, as the code reckons it from the one before
module _ (s : List ℕ) (l : Layout) (at n i last : ℕ)
    (before : to_z w64 last ≡ id_before (deltas_of l (drop at s)) i)
    (e : block_check l (drop at s) at ≡ silent) (c : n ≡ (block_of l (drop at s)).count) (h : i < n)
    (r : ℤ) (small : mag r < 2147483648) where
  ids-pass : ids_check (deltas_of l (drop at s)) (block_of l (drop at s)).count at ≡ silent
  ids-pass = block-ids l (drop at s) at e

  less : i < (block_of l (drop at s)).count
  less = omega arith

  pub before-fits : SFits w64 (to_z w64 last +ℤ pos 1)
  before-fits = ids.last_fits _ _ at ids-pass i last before less r small

  pub record-fits : SFits w64 (reckoned last r)
  record-fits = ids.next_fits _ _ at ids-pass i last before less r small

  pub record-in-range : in_range (id_at (deltas_of l (drop at s)) i) ≡ true
  record-in-range = id-in-range _ _ at ids-pass i less

  module _ (q : r ≡ delta_at (deltas_of l (drop at s)) i) where
    pub next-is : reckoned last r ≡ id_at (deltas_of l (drop at s)) i
    next-is = ids.next-is _ _ at ids-pass i last before less r small q

    pub next-before : to_z w64 (of_z w64 (reckoned last r)) ≡ id_before (deltas_of l (drop at s)) (i + 1)
    next-before = ids.next-before _ _ at ids-pass i last before less r small q

module _ {s : List ℕ} {l : Layout} {want : Record → Bool} {at n i : ℕ} (last : ℕ)
    (p : Passing s l want at n i (to_z w64 last))
    (e : block_check l (drop at s) at ≡ silent) (c : n ≡ (block_of l (drop at s)).count) (h : i < n)
    (r : ℤ) (small : mag r < 2147483648) where
  pub last_fits : SFits w64 (to_z w64 last +ℤ pos 1)
  last_fits = before-fits s l at n i last p.before e c h r small

  pub next_fits : SFits w64 (reckoned last r)
  next_fits = record-fits s l at n i last p.before e c h r small

  here : (tail : List Record)
      → first_of want (records_from s l at 0 n ++ tail) ≡ first_of want (record_at s l at i ∷ records_from s l at (i + 1) (n - (i + 1)) ++ tail)
  unfolding records_from
  here tail =
      let more : n - i ≡ suc (n - (i + 1)) = omega arith in
      let one : suc i ≡ i + 1 = omega arith in
      p.passed tail
      ∙ ap (λ m. first_of want (records_from s l at i m ++ tail)) more
      ∙ ap (λ j. first_of want (record_at s l at i ∷ records_from s l at j (n - (i + 1)) ++ tail)) one

  pub passing-found : want (record_at s l at i) ≡ true → (tail : List Record) → first_of want (records_from s l at 0 n ++ tail) ≡ this (record_at s l at i)
  passing-found t tail = here tail ∙ is_wanted want (record_at s l at i) _ t

  module _ (q : r ≡ delta_at (deltas_of l (drop at s)) i) where
    pub passing-next : want (record_at s l at i) ≡ false → Passing s l want at n (i + 1) (to_z w64 (of_z w64 (reckoned last r)))
    passing-next other = record {
      before = next-before s l at n i last p.before e c h r small q;
      passed = λ tail. here tail ∙ not-wanted want (record_at s l at i) _ other;
    }

-- ---- block after block

-- These blocks pass the check, and the first wanted record of the file is the first of theirs.
abbrev pub Unsearched : List ℕ → Layout → (Record → Bool) → List ℕ → Type 0
Unsearched s l want rest = (blocks_check s l rest ≡ silent) × (first_of want (records_by s l) ≡ first_of want (records_in s l rest))

module _ (s : List ℕ) (l : Layout) (want : Record → Bool) (at : ℕ) (rest : List ℕ) (u : Unsearched s l want (at ∷ rest)) where
  pub block-passed : block_check l (drop at s) at ≡ silent
  unfolding blocks_check
  block-passed = first-left _ _ u.0

  module _ (n : ℕ) (e : n ≡ (block_of l (drop at s)).count) where
    pub found_here : first_of want (records_by s l) ≡ first_of want (records_from s l at 0 n ++ records_in s l rest)
    unfolding records_in
    found_here = u.1 ∙ ap (λ m. first_of want (records_from s l at 0 m ++ records_in s l rest)) (sym e)

    pub search-on : ((tail : List Record) → first_of want (records_from s l at 0 n ++ tail) ≡ first_of want tail) → Unsearched s l want rest
    unfolding blocks_check
    search-on nothing = (first-right _ _ u.0, found_here ∙ nothing (records_in s l rest))

pub search-ended : (s : List ℕ) (l : Layout) (want : Record → Bool) → Unsearched s l want [] → first_of want (records_by s l) ≡ none
unfolding records_in first_of
search-ended s l want u = u.1

-- ---- a file number

other-id : (id : ℕ) (z : ℤ) → (of_z w64 z ≡ id → ⊥) → is_id id z ≡ false
unfolding is_id
other-id id (pos n) e = ne_eqb n id e
other-id id (negsuc n) e = refl

same_id : (id : ℕ) (z : ℤ) → in_range z ≡ true → of_z w64 z ≡ id → is_id id z ≡ true
unfolding is_id in_range
same_id id (pos n) r e = eq-eqb n id e
same_id id (negsuc n) r e = absurd (false≢true r)

-- no record of a block that does not count is wanted
pub uncounted : (s : List ℕ) (l : Layout) (id locale unwanted at : ℕ) → counts locale unwanted (block_of l (drop at s)) ≡ false
    → (i : ℕ) → wanted id locale unwanted (record_at s l at i) ≡ false
unfolding record_at wanted
uncounted s l id locale unwanted at e i = ap (λ t. t && is_id id (record_at s l at i).id) e

-- in one that counts, record i is wanted if its id, as the code reckons it, is the sought one
module _ {s : List ℕ} {l : Layout} {want : Record → Bool} {at n i : ℕ} (last : ℕ)
    (p : Passing s l want at n i (to_z w64 last))
    (e : block_check l (drop at s) at ≡ silent) (c : n ≡ (block_of l (drop at s)).count) (h : i < n)
    (r : ℤ) (small : mag r < 2147483648) (q : r ≡ delta_at (deltas_of l (drop at s)) i)
    (id locale unwanted : ℕ) (counted : counts locale unwanted (block_of l (drop at s)) ≡ true) where
  held : of_z w64 (reckoned last r) ≡ of_z w64 (id_at (deltas_of l (drop at s)) i)
  held = ap (of_z w64) (next-is s l at n i last p.before e c h r small q)

  pub number-other : (of_z w64 (reckoned last r) ≡ id → ⊥) → wanted id locale unwanted (record_at s l at i) ≡ false
  unfolding record_at wanted
  number-other other = rw counted (other-id id _ (λ g. other (held ∙ g)))

  pub number-found : of_z w64 (reckoned last r) ≡ id → wanted id locale unwanted (record_at s l at i) ≡ true
  unfolding record_at wanted
  number-found same = rw counted (same_id id _ (record-in-range s l at n i last p.before e c h r small) (sym held ∙ same))

-- ---- the whole lookup

pub root_passed : (s : List ℕ) (l : Layout) → root_check s ≡ silent → l ≡ layout_of s → blocks_check s l (blocks_by s l) ≡ silent
unfolding root_check
root_passed s l e g = rw g (first-right _ _ e)

pub looked : (s : List ℕ) (l : Layout) (id locale unwanted : ℕ) (o : Outcome) → root_check s ≡ silent → l ≡ layout_of s
    → o ≡ found_among (wanted id locale unwanted) (records_by s l) → o ≡ lookup_of s id locale unwanted
unfolding lookup_of
looked s l id locale unwanted o e g p =
    p ∙ ap (λ m. found_among (wanted id locale unwanted) (records_by s m)) g ∙ sym (after-quiet _ e)

-- a whole key laid over zeros
pub key-laid : (s : List ℕ) (at : ℕ) → at + 16 ≤ length s → overlay (replicate 16 0) 0 (part_at s at 16) ≡ part_at s at 16
key-laid s at h =
    let long : length (part_at s at 16) ≡ 16 = part_at-inside s at 16 h in
    overlay-inside (replicate 16 0) 0 (part_at s at 16) (omega arith)
    ∙ ap (λ n. part_at s at 16 ++ drop (0 + n) (replicate 16 0)) long
    ∙ append-nil (part_at s at 16)

-- where a key is found, the bytes beside it are the key, and no other bytes matter
pub key-found : (s key other : List ℕ) (at : ℕ) (o : Outcome) → key ≡ key_at s at → answered (at ∷ []) ≡ o → key ≡ key_or s other o
unfolding key_or
key-found s key other at o k e = k ∙ ap (key_or s other) e
