-- The keys of an index that passes the full check rise strictly, page by page.
use mathlib.Core.Path.{◌≡◌, refl, sym, ap, ◌∙◌}
use mathlib.Core.Bool.{false}
use mathlib.Core.List.{List}
use Prim.Native.Nat.{ℕ, zero, suc, ◌-◌, ◌≤◌, ◌<◌}
use native.Mathlib.Nat.{zero-add}
use native.Mathlib.Omega.{arith}
use borrow.Author.Tests.{not-false}
use Rattle.parts.specs.Part.{part_at}
use Rattle.parts.proofs.Laws.{same_bytes-eq}
use Rattle.std.specs.declared.cmp.Ordering.TheVariants.{Less}
use Rattle.key.specs.Order.{compared}
use Rattle.key.proofs.Laws.{is_below-true, below-trans, below-then-not-above}
use Rattle.refusal.specs.Check.{silent, first, first_from}
use Rattle.refusal.specs.Number.{index_order, last_key}
use Rattle.refusal.proofs.Laws.{first-left, first-right, silent-test, from_each}
use Rattle.halving.proofs.Laws.{by_order}
use Rattle.index_layout.specs.declared.Layout.{Layout}
use Rattle.index_layout.specs.Layout.{on_page, last_key_offset, key_at}
use Rattle.index.specs.Check.{page_hash_check, padding_check, order_check, last_key_check, page_check, pages_check, not_above}
use Rattle.index.proofs.Laws.{not-above-first, not-above-next}
use Rattle.index_lookup.specs.Lookup.{stored_in}
use Rattle.index_agreement.proofs.Agreement.{Sorted}

-- ---- what the checks of the pages say

module _ (s : List ℕ) (l : Layout) (passed : pages_check s l ≡ silent) where
  module _ (p : ℕ) (h : p < l.pages) where
    page-silent : page_check s l p ≡ silent
    unfolding pages_check
    page-silent = rw zero-add at (from_each (page_check s l) 0 l.pages passed p h)

    -- 8 and 9, after 6 and 7
    rest-silent : first (first_from (order_check s l p) 0 (on_page l p)) (last_key_check s l p) ≡ silent
    unfolding page_check
    rest-silent = first-right (padding_check s l p) _ (first-right (page_hash_check s l p) _ page-silent)

    last-is : part_at s (last_key_offset l p) l.key_length ≡ key_at s l p (on_page l p - 1)
    unfolding last_key_check
    last-is = same_bytes-eq _ _ (not-false _ (silent-test _ last_key p (first-right _ _ rest-silent)))

    above : (i : ℕ) → i < on_page l p → not_above s l p i ≡ false
    unfolding order_check
    above i m =
        let order = from_each (order_check s l p) 0 (on_page l p) (first-left _ (last_key_check s l p) rest-silent) i m in
        silent-test _ index_order _ (rw zero-add at order)

    pub next-below : (i : ℕ) → suc i < on_page l p → compared (key_at s l p i) (key_at s l p (suc i)) ≡ Less
    next-below i m =
        let one : i ≡ suc i - 1 = omega arith in
        is_below-true _
        (not-false _ (sym (not-above-next s l p (suc i) _ _ _ (omega arith) refl (ap (key_at s l p) one) refl) ∙ above (suc i) m))

  pub over_below : (p : ℕ) → suc p < l.pages → 0 < on_page l (suc p) → compared (key_at s l p (on_page l p - 1)) (key_at s l (suc p) 0) ≡ Less
  over_below p h some =
      let one : p ≡ suc p - 1 = omega arith in
      is_below-true _
      (not-false _
      (sym (not-above-first s l (suc p) _ _ _ (λ z. omega arith) refl (ap (λ q. key_at s l q (on_page l q - 1)) one) refl) ∙ above (suc p) h 0 some))

  -- ---- inside a page

  inside : (p i j : ℕ) → p < l.pages → i < j → j < on_page l p → compared (key_at s l p i) (key_at s l p j) ≡ Less
  inside p i zero h m n = absurd (omega arith)
  inside p i (suc j) h m n =
      let next = next-below p h j n in
      by_order i j (λ o. below-trans _ _ _ (inside p i j h o (omega arith)) next)
      (λ o. let same : i ≡ j = omega arith in rw same next)

  -- below a key, so below every later one; and above
  up_to : (p i j : ℕ) (a : List ℕ) → p < l.pages → i ≤ j → j < on_page l p → compared a (key_at s l p i) ≡ Less → compared a (key_at s l p j) ≡ Less
  up_to p i j a h m n below =
      by_order i j (λ o. below-trans _ _ _ below (inside p i j h o n))
      (λ o. let same : i ≡ j = omega arith in rw same at below)

  from_on : (p i j : ℕ) (a : List ℕ) → p < l.pages → i ≤ j → j < on_page l p → compared (key_at s l p j) a ≡ Less → compared (key_at s l p i) a ≡ Less
  from_on p i j a h m n below =
      by_order i j (λ o. below-trans _ _ _ (inside p i j h o n) below)
      (λ o. let same : i ≡ j = omega arith in rw same below)

  -- ---- from page to page

  module _ (some : (p : ℕ) → p < l.pages → 0 < on_page l p) where
    over : (p q : ℕ) → p < q → q < l.pages → compared (key_at s l p (on_page l p - 1)) (key_at s l q 0) ≡ Less
    over p zero m h = absurd (omega arith)
    over p (suc q) m h =
        let next = over_below q h (some (suc q) h) in
        let room = some q (omega arith) in
        by_order p q
        (λ o. below-trans _ _ _ (up_to q 0 (on_page l q - 1) _ (omega arith) (omega arith) (omega arith) (over p q o (omega arith))) next)
        (λ o. let same : p ≡ q = omega arith in rw same next)

    across : (p q i j : ℕ) → p < q → q < l.pages → i < on_page l p → j < on_page l q → compared (key_at s l p i) (key_at s l q j) ≡ Less
    across p q i j m h hi hj =
        up_to q 0 j _ h (omega arith) hj
        (from_on p i (on_page l p - 1) _ (omega arith) (omega arith) (omega arith) (over p q m h))

    -- ---- against a sought key

    pub sorted : (sought : List ℕ) → Sorted (stored_in s l sought)
    unfolding stored_in
    sorted sought = record {
      some = some;
      lasts = λ p h. ap (λ k. compared k sought) (last-is p h);
      inside = λ p i j h m n not. below-then-not-above _ _ sought (inside p i j h m n) not;
      across = λ p q i j m h hi hj not. below-then-not-above _ _ sought (across p q i j m h hi hj) not;
    }
