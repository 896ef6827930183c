-- The first wanted record, as specs/Records.antt states it: of the definitions, then of what the functions answer.
use mathlib.Core.Path.{◌≡◌, refl, sym, ap, ◌∙◌, subst}
use mathlib.Core.Bool.{Bool, true, false, false≢true, and-eq-true_iff}
use mathlib.Core.List.Memᴰ
use mathlib.Core.List.{List, [], ◌∷◌, ◌++◌}
use mathlib.Core.Logic.{◌⊎◌, inl, inr, ⊎_elim}
use Prim.Native.Nat.{ℕ}
use native.Mathlib.Omega.{arith}
use lib.IntN.{ℤ, pos, negsuc}
use borrow.Author.Tests.{eqb-true, eq-eqb}
use Rattle.refusal.proofs.Laws.{passed_is, after-quiet}
use Rattle.root_block.specs.Block.{counts}
use Rattle.root.specs.Root.{root_check}
use Rattle.root.specs.Lookup.{Record, records, First, none, this, first_of, is_id, wanted, lookup_of}
use Rattle.root.proofs.First.{not-wanted, is_wanted}
use Rattle.root_records.specs.Records.{Decides, NoneWanted, FirstWanted, FindsFirst, Wanted, Calls, FindsNumber}

-- ---- the search through a list of records

none-this : {f : First} (r : Record) → f ≡ this r → f ≡ none → ⊥
none-this r p q = let z : ◌≡◌ {A = ℕ} 0 1 = cc in omega arith

this-same : {f : First} (r q : Record) → f ≡ this r → f ≡ this q → r ≡ q
this-same r q e g = cc

module _ (want : Record → Bool) (Wants : Record → Type 0) (d : Decides want Wants) where
  refuted : (r : Record) → (Wants r → ⊥) → want r ≡ false
  refuted r never = by (want r) refl
    where
      by : (t : Bool) → want r ≡ t → t ≡ false
      by true e = absurd (never (d.taken r e))
      by false e = refl

  less : {r : Record} {rs : List Record} → NoneWanted Wants (r ∷ rs) → NoneWanted Wants rs
  less n = record { not_one = λ x m. n.not_one x (Memᴰ.tail m) }

  head-refuted : {r : Record} {rs : List Record} → NoneWanted Wants (r ∷ rs) → want r ≡ false
  head-refuted {r} n = refuted r (n.not_one r (Memᴰ.head refl))

  none_found : (rs : List Record) → NoneWanted Wants rs → first_of want rs ≡ none
  unfolding first_of
  none_found [] n = refl
  none_found (r ∷ rs) n = not-wanted want r rs (head-refuted n) ∙ none_found rs (less n)

  first_found : (before after : List Record) (r : Record) → NoneWanted Wants before → Wants r → first_of want (before ++ (r ∷ after)) ≡ this r
  first_found [] after r n w = is_wanted want r after (d.takes r w)
  first_found (x ∷ before) after r n w = not-wanted want x (before ++ (r ∷ after)) (head-refuted n) ∙ first_found before after r (less n) w

  first-is : (rs : List Record) (r : Record) → FirstWanted Wants rs r → first_of want rs ≡ this r
  first-is rs r f = ap (first_of want) f.order ∙ first_found f.before f.after r f.none_before f.is_wanted

  -- a list has a first wanted record or none
  abbrev Decided : List Record → Type 0
  Decided rs = ((r : Record) × FirstWanted Wants rs r) ⊎ NoneWanted Wants rs

  nothing : NoneWanted Wants []
  nothing = record { not_one = λ x m. absurd (Memᴰ.not-nil m) }

  also : (x : Record) (rs : List Record) → want x ≡ false → NoneWanted Wants rs → NoneWanted Wants (x ∷ rs)
  also x rs e n = record {
    not_one = λ y m w. ⊎_elim
        (λ (p : y ≡ x). false≢true (sym e ∙ d.takes x (subst Wants p w)))
        (λ k. n.not_one y k w)
        (Memᴰ.cases_cons m);
  }

  on : (x : Record) (rs : List Record) → Decided rs → (t : Bool) → want x ≡ t → Decided (x ∷ rs)
  on x rs k true e = inl (x, record { before = []; after = rs; order = refl; none_before = nothing; is_wanted = d.taken x e })
  on x rs (inl (r, f)) false e =
      inl (
        r,
        record {
          before = x ∷ f.before;
          after = f.after;
          order = ap (λ l. x ∷ l) f.order;
          none_before = also x f.before e f.none_before;
          is_wanted = f.is_wanted;
        },
      )
  on x rs (inr n) false e = inr (also x rs e n)

  decided : (rs : List Record) → Decided rs
  decided [] = inr nothing
  decided (x ∷ rs) = on x rs (decided rs) (want x) refl

  found : (rs : List Record) (r : Record) → first_of want rs ≡ this r → Decided rs → FirstWanted Wants rs r
  found rs r e (inl (q, f)) = subst (FirstWanted Wants rs) (this-same q r (first-is rs q f) e) f
  found rs r e (inr n) = absurd (none-this r e (none_found rs n))

  absent : (rs : List Record) → first_of want rs ≡ none → Decided rs → NoneWanted Wants rs
  absent rs e (inl (r, f)) = absurd (none-this r (first-is rs r f) e)
  absent rs e (inr n) = n

  pub finds_first : (rs : List Record) → FindsFirst Wants rs (first_of want rs)
  finds_first rs = record {
    found = λ r e. found rs r e (decided rs);
    finds = first-is rs;
    absent = λ e. absent rs e (decided rs);
    absent_where = none_found rs;
  }

-- ---- a file number

is-id : (id : ℕ) (z : ℤ) → is_id id z ≡ true → z ≡ pos id
unfolding is_id
is-id id (pos n) e = ap pos (eqb-true n id e)
is-id id (negsuc n) e = absurd (false≢true e)

id-is : (id : ℕ) (z : ℤ) → z ≡ pos id → is_id id z ≡ true
unfolding is_id
id-is id z e = subst (λ x. is_id id x ≡ true) (sym e) (eq-eqb id id refl)

wanted-decides : (id locale unwanted : ℕ) → Decides (wanted id locale unwanted) (Wanted id locale unwanted)
unfolding wanted
wanted-decides id locale unwanted = record {
  taken = λ r e. let both = (and-eq-true_iff (counts locale unwanted r.block) (is_id id r.id)).0 e in
      record { block_counts = both.0; same_id = is-id id r.id both.1 };
  takes = λ r w. (and-eq-true_iff (counts locale unwanted r.block) (is_id id r.id)).1 (w.block_counts, id-is id r.id w.same_id);
}

module _ (s : List ℕ) (id locale unwanted : ℕ) (c : Calls s id locale unwanted) where
  pub finds-number : FindsNumber s id locale unwanted c.looked
  unfolding lookup_of
  finds-number = record {
    first = first_of (wanted id locale unwanted) (records s);
    finds_first = finds_first _ _ (wanted-decides id locale unwanted) (records s);
    told = c.lookup_ensures ∙ after-quiet _ (passed_is c.checked (root_check s) c.check_ensures c.passed);
    key = c.key_ensures;
  }
