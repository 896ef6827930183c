-- The first record with a name hash, as specs/Named.antt states it: of the definitions, then of what the functions answer.
use mathlib.Core.Path.{◌≡◌, refl, sym, ap, ◌∙◌, subst}
use mathlib.Core.Bool.{true, false≢true}
use mathlib.Core.List.Memᴰ
use mathlib.Core.List.{List, [], ◌∷◌, ◌++◌, Memᴰ}
use mathlib.Core.Logic.{⊎_elim}
use Prim.Native.Nat.{ℕ, zero, suc, ◌+◌}
use native.Mathlib.Omega.{arith}
use lib.IntN.{ℤ, pos, negsuc}
use lib.ListN.{drop}
use borrow.Author.Tests.{eqb-true, eq-eqb}
use Rattle.parts.proofs.Laws.{both}
use Rattle.std.specs.Prelude.{Option, Some, None, Result, Ok, Err, IfOk, IfSome}
use Rattle.refusal.specs.declared.Refusal.{Refusal}
use Rattle.refusal.specs.Check.{silent}
use Rattle.refusal.specs.Outcome.{answered}
use Rattle.refusal.proofs.Laws.{passed_is, after-quiet, first-left, first-right}
use Rattle.name_hash.specs.NameHash.{name_hash, path_check}
use Rattle.name_hash.proofs.Laws.{passed-hash}
use Rattle.root_layout.specs.declared.Layout.{Layout}
use Rattle.root_layout.specs.Header.{layout_of}
use Rattle.root_block.specs.Block.{block_of, block_check, counts}
use Rattle.root_block.specs.Ids.{in_range}
use Rattle.root_block.proofs.Laws.{block-ids}
use Rattle.root_block.proofs.Reckoned.{id-in-range}
use Rattle.root.specs.Root.{blocks_check, root_check}
use Rattle.root.specs.Lookup as lookup
use Rattle.root.specs.Lookup.{record_at, records_from, records_in, records, First, this, first_of}
use Rattle.root_records.specs.Records.{Decides, FindsFirst}
use Rattle.root_records.proofs.Records.{finds_first}
use Rattle.root_find_path.specs.declared.Found.{Found}
use Rattle.root_find_path.specs.Path.{is_searched, named, id_number, record_told, hash_lookup, path_lookup, outcome}
use Rattle.root_find_path_calls.specs.Named.{Named, Calls, FindsPath}

-- ---- the test takes exactly the wanted records

decides : (l : Layout) (hash locale unwanted : ℕ) → Decides (named l hash locale unwanted) (Named l hash locale unwanted)
unfolding named is_searched
decides l hash locale unwanted = record {
  taken = λ r e.
      let searched = both (is_searched l locale unwanted r.block) _ e in
      let block = both (counts locale unwanted r.block) _ searched.0 in
      record { block_counts = block.0; has_hashes = block.1; same_hash = eqb-true r.hash hash searched.1 };
  takes = λ r w. rw (w.block_counts, w.has_hashes) (eq-eqb r.hash hash w.same_hash);
}

-- ---- the ids of a checked file

-- The ids of these records are in range.
record InRange (rs : List lookup.Record) : Type 0 where
  each : (r : lookup.Record) → Memᴰ r rs → in_range r.id ≡ true

none_in : InRange []
none_in = record { each = λ r m. absurd (Memᴰ.not-nil m) }

one_more : {x : lookup.Record} {rs : List lookup.Record} → in_range x.id ≡ true → InRange rs → InRange (x ∷ rs)
one_more {x} h p = record {
  each = λ r m. ⊎_elim
      (λ (e : r ≡ x). subst (λ y. in_range y.id ≡ true) (sym e) h)
      (λ k. p.each r k)
      (Memᴰ.cases_cons m);
}

joined : (a b : List lookup.Record) → InRange a → InRange b → InRange (a ++ b)
joined [] b p q = q
joined (x ∷ a) b p q = one_more (p.each x (Memᴰ.head refl)) (joined a b (record { each = λ r m. p.each r (Memᴰ.tail m) }) q)

of-block : (s : List ℕ) (l : Layout) (at i n : ℕ) → block_check l (drop at s) at ≡ silent → i + n ≡ (block_of l (drop at s)).count
    → InRange (records_from s l at i n)
unfolding records_from record_at
of-block s l at i zero e h = none_in
of-block s l at i (suc n) e h =
    one_more (id-in-range _ _ at (block-ids l (drop at s) at e) i (omega arith)) (of-block s l at (suc i) n e (omega arith))

of_blocks : (s : List ℕ) (l : Layout) (blocks : List ℕ) → blocks_check s l blocks ≡ silent → InRange (records_in s l blocks)
unfolding blocks_check records_in
of_blocks s l [] e = none_in
of_blocks s l (at ∷ rest) e = joined _ _ (of-block s l at 0 _ (first-left _ _ e) (omega arith)) (of_blocks s l rest (first-right _ _ e))

of-file : (s : List ℕ) → root_check s ≡ silent → InRange (records s)
unfolding root_check
of-file s e = of_blocks s (layout_of s) _ (first-right _ _ e)

-- ---- what is told of the first record

member : (before after : List lookup.Record) (r : lookup.Record) → Memᴰ r (before ++ (r ∷ after))
member [] after r = Memᴰ.head refl
member (x ∷ before) after r = Memᴰ.tail (member before after r)

number_is : (z : ℤ) → in_range z ≡ true → pos (id_number z) ≡ z
unfolding in_range id_number
number_is (pos n) e = refl
number_is (negsuc n) e = absurd (false≢true e)

values_same : (a b c d : ℕ) → answered (a ∷ b ∷ []) ≡ answered (c ∷ d ∷ []) → (a ≡ c) × (b ≡ d)
values_same a b c d e = ((cc), (cc))

module _ (s path : List ℕ) (hash locale unwanted : ℕ) (c : Calls s path hash locale unwanted) where
  silently : root_check s ≡ silent
  silently = passed_is c.checked (root_check s) c.check_ensures c.passed

  hashed-is : (path_check path ≡ silent) × (hash ≡ name_hash path)
  hashed-is = passed-hash path c.hashed c.hash_ensures c.hash_is

  first-is : First
  first-is = first_of (named (layout_of s) hash locale unwanted) (records s)

  finds : FindsFirst (Named (layout_of s) hash locale unwanted) (records s) first-is
  unfolding first-is
  finds = finds_first _ _ (decides (layout_of s) hash locale unwanted) (records s)

  told_is : outcome c.looked ≡ record_told first-is
  unfolding first-is path_lookup hash_lookup
  told_is =
      c.lookup_ensures
      ∙ after-quiet _ hashed-is.0
      ∙ after-quiet _ silently
      ∙ ap (λ h. record_told (first_of (named (layout_of s) h locale unwanted) (records s))) (sym hashed-is.1)

  own_is : (r : lookup.Record) → first-is ≡ this r → (v : Result (Option Found) Refusal) → outcome v ≡ record_told (this r)
      → IfOk v (λ found. IfSome found (λ f. (r.id ≡ pos f.id) × (r.key ≡ f.at)))
  unfolding record_told
  own_is r e (Ok (Some f)) q =
      let g = finds.found r e in
      let there = subst (Memᴰ r) (sym g.order) (member g.before g.after r) in
      let same = values_same f.id f.at _ _ q in
      (sym (number_is r.id ((of-file s silently).each r there)) ∙ ap pos (sym same.0), sym same.1)
  own_is r e (Ok None) q = tt
  own_is r e (Err x) q = tt

  pub finds-path : FindsPath s hash locale unwanted c.looked
  finds-path = record {
    first = first-is;
    finds_first = finds;
    told = told_is;
    own_id = λ r e. own_is r e c.looked (told_is ∙ ap record_told e);
    key = c.key_ensures;
  }
