-- Laws of a list of ids, of the search in it, and of what a place tells.
use mathlib.Core.Path.{◌≡◌, refl, sym, ap, ap₂, ◌∙◌, subst}
use mathlib.Core.Bool.{true, false, not, ◌&&◌, and-eq-true_iff}
use mathlib.Core.List.{List, [], ◌∷◌}
use Prim.Native.Nat.{ℕ, zero, suc, ◌+◌, ◌-◌, ◌*◌, ◌%◌, ◌≤◌, ◌<◌}
use native.Mathlib.Nat.{le_trans, add-zero, lt_of_le_of_lt}
use native.Mathlib.Omega.{arith}
use lib.Dec.{ltb, eqb}
use lib.ListN.{length}
use borrow.Author.Tests.{eq-eqb, ne_eqb, eqb-true, eqb-false, lt-ltb, le-ltb, ltb-true, ltb-false}
use Rattle.parts.specs.Part.{byte_at}
use Rattle.parts.proofs.Laws.{by-test}
use Rattle.numbers.specs.Number.{big_at}
use Rattle.refusal.specs.Check.{silent, refused, first_from}
use Rattle.refusal.specs.Number.{list_length, list_falls}
use Rattle.refusal.proofs.Laws.{said, quiet, first_said, first-quiet, silent-test, first-right, from_each}
use Rattle.id_list.specs.Ids.{id_count, id_at, fall_check, ids_check}
use Rattle.id_list.specs.Place.{stands_at, Between, Placed, Rising}

-- an id is read from its four bytes
pub id-is : (ids : List ℕ) (i at r : ℕ) → at ≡ 4 * i
    → r ≡ big_at (byte_at ids at ∷ byte_at ids (at + 1) ∷ byte_at ids (at + 2) ∷ byte_at ids (at + 3) ∷ []) 0 4
    → r ≡ id_at ids i
unfolding id_at big_at
id-is ids i at r p e =
    let two : at + 1 + 1 ≡ at + 2 = omega arith in
    let three : at + 2 + 1 ≡ at + 3 = omega arith in
    e ∙ rw (← p, two, three)

-- ---- the check

module _ (ids : List ℕ) where
  pub list-cut : (length ids % 4 ≡ 0 → ⊥) → ids_check ids ≡ refused list_length 0
  unfolding ids_check
  list-cut h = first_said _ (said refl (ap not (ne_eqb (length ids % 4) 0 h)))

  pub list-whole : length ids % 4 ≡ 0 → ids_check ids ≡ first_from (fall_check ids) 1 (id_count ids - 1)
  unfolding ids_check
  list-whole h = first-quiet _ (quiet list_length 0 refl (ap not (eq-eqb (length ids % 4) 0 h)))

  module _ (i a b : ℕ) (p : a ≡ id_at ids i) (q : b ≡ id_at ids (i - 1)) where
    pub falls : a < b → fall_check ids i ≡ refused list_falls i
    unfolding fall_check
    falls h = said refl (ap₂ ltb (sym p) (sym q) ∙ lt-ltb a b h)

    pub holds : b ≤ a → fall_check ids i ≡ silent
    unfolding fall_check
    holds h = quiet list_falls i refl (ap₂ ltb (sym p) (sym q) ∙ le-ltb a b h)

-- ---- a list that passes its check rises

module _ (ids : List ℕ) (e : first_from (fall_check ids) 1 (id_count ids - 1) ≡ silent) where
  next-not-below : (j : ℕ) → suc j < id_count ids → id_at ids j ≤ id_at ids (suc j)
  unfolding fall_check
  next-not-below j h =
      let one : 1 + j ≡ suc j = omega arith in
      let before : suc j - 1 ≡ j = omega arith in
      let quiet = subst (λ k. fall_check ids k ≡ silent) one (from_each (fall_check ids) 1 (id_count ids - 1) e j (omega arith)) in
      subst (λ k. id_at ids k ≤ id_at ids (suc j)) before
      (ltb-false _ _ (silent-test _ list_falls (suc j) quiet))

  rise-by : (i k : ℕ) → i + k < id_count ids → id_at ids i ≤ id_at ids (i + k)
  rise-by i zero h = rw add-zero (omega arith)
  rise-by i (suc k) h =
      let shift : i + suc k ≡ suc (i + k) = omega arith in
      rw shift (le_trans (rise-by i k (omega arith)) (next-not-below (i + k) (omega arith)))

  rises : Rising ids
  rises = record {
    rise = λ i j h l.
        let back : i + (j - i) ≡ j = omega arith in
        subst (λ k. id_at ids i ≤ id_at ids k) back (rise-by i (j - i) (omega arith));
  }

pub ids-rise : (ids : List ℕ) → ids_check ids ≡ silent → Rising ids
unfolding ids_check
ids-rise ids e = rises ids (first-right _ _ e)

-- ---- the search

module _ (ids : List ℕ) (id : ℕ) where
  module _ {low high : ℕ} (b : Between ids id low high) (m : ℕ) (h : m < high) where
    pub between-after : id_at ids m < id → Between ids id (m + 1) high
    between-after below = record {
      order = omega arith;
      within = b.within;
      before = λ l. let back : m + 1 - 1 ≡ m = omega arith in subst (λ k. id_at ids k < id) (sym back) below;
      stops = b.stops;
    }

    pub between-before : low ≤ m → id ≤ id_at ids m → Between ids id low m
    between-before l not_below = record {
      order = l;
      within = omega (arith, b.within);
      before = b.before;
      stops = λ k. not_below;
    }

  -- where the ends meet, that is the place
  pub between-met : {low high : ℕ} → Between ids id low high → high ≤ low → Placed ids id low
  between-met {low} {high} b h =
      let e : high ≡ low = omega (arith, b.order) in
      subst (Between ids id low) e b

-- ---- what a place tells of ids that rise

module _ (ids : List ℕ) (rising : Rising ids) (id place : ℕ) (b : Placed ids id place) where
  pub placed-before : (j : ℕ) → j < place → id_at ids j < id
  placed-before j h =
      lt_of_le_of_lt (rising.rise j (place - 1) (omega arith) (omega (arith, b.within))) (b.before (omega arith))

  pub none_before : (j : ℕ) → j < place → id_at ids j ≡ id → ⊥
  none_before j h e = omega (arith, placed-before j h)

  -- behind an id from the place on that is another, all are
  pub none-behind : (i : ℕ) → place ≤ i → i < id_count ids → (id_at ids i ≡ id → ⊥) → (j : ℕ) → i ≤ j → j < id_count ids → id_at ids j ≡ id → ⊥
  none-behind i p l other j h k e =
      omega (arith, rising.rise i j h k, rising.rise place i p l, b.stops (omega arith), other)

-- ---- whether an id stands at a place

module _ (ids : List ℕ) (i id : ℕ) where
  pub stands-true : stands_at ids i id ≡ true → (i < id_count ids) × (id_at ids i ≡ id)
  unfolding stands_at
  stands-true t =
      let both = (and-eq-true_iff (ltb i (id_count ids)) (eqb (id_at ids i) id)).0 t in
      (ltb-true i (id_count ids) both.0, eqb-true (id_at ids i) id both.1)

  pub stands-false : stands_at ids i id ≡ false → i < id_count ids → id_at ids i ≡ id → ⊥
  unfolding stands_at
  stands-false f h = eqb-false (id_at ids i) id (sym (ap (λ t. t && eqb (id_at ids i) id) (lt-ltb i (id_count ids) h)) ∙ f)

-- an id that does not stand at its place stands nowhere
pub none-stands : (ids : List ℕ) → Rising ids → (id place : ℕ) → Placed ids id place → stands_at ids place id ≡ false
    → (j : ℕ) → j < id_count ids → id_at ids j ≡ id → ⊥
none-stands ids rising id place b f j h =
    by-test (ltb j place)
    (λ t. none_before ids rising id place b j (ltb-true j place t))
    (λ t. let behind = ltb-false j place t in
    none-behind ids rising id place b place (omega arith) (omega arith) (stands-false ids place id f (omega arith)) j behind h)
