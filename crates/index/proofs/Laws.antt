-- Laws of the checks of the pages.
use mathlib.Core.Path.{◌≡◌, refl, sym, ap, ◌∙◌}
use mathlib.Core.Bool.{Bool, true, false, not}
use mathlib.Core.List.{List}
use Prim.Native.Nat.{ℕ, ◌+◌, ◌-◌, ◌≤◌, ◌<◌}
use native.Mathlib.Omega.{arith}
use lib.Dec.{ltb, eqb}
use Rattle.key.specs.Order.{compared, is_below}
use Rattle.rising.specs.Fall.{rises_at, fall_from}
use Rattle.rising.proofs.Laws.{fall-check, fall-low}
use Rattle.refusal.specs.Check.{Check, silent, refused, refused_if, first_from}
use Rattle.refusal.specs.Number.{index_order}
use Rattle.refusal.proofs.Laws.{said, quiet, upto-said, upto-quiet}
use Rattle.index_layout.specs.declared.Layout.{Layout}
use Rattle.index_layout.specs.Layout.{entry_size, on_page, entry_number, page_of, key_at}
use Rattle.index_layout.proofs.Laws.{page-key}
use Rattle.index.specs.Check.{key_before, not_above, order_check}
use borrow.Author.Tests.{lt-ltb, le-ltb, ne_eqb}

-- ---- the order of a page's entries
module _ (s : List ℕ) (l : Layout) (p : ℕ) where
  pub not-above-first : (a b : List ℕ) (r : Bool) → (p ≡ 0 → ⊥) → r ≡ is_below (compared a b)
      → a ≡ key_at s l (p - 1) (on_page l (p - 1) - 1) → b ≡ key_at s l p 0 → not_above s l p 0 ≡ not r
  unfolding key_before not_above
  not-above-first a b r h e f g =
      let later : eqb p 0 ≡ false = ne_eqb p 0 h in
      rw (later, e, f, g)

  pub not-above-next : (i : ℕ) (a b : List ℕ) (r : Bool) → 1 ≤ i → r ≡ is_below (compared a b)
      → a ≡ key_at s l p (i - 1) → b ≡ key_at s l p i → not_above s l p i ≡ not r
  unfolding key_before not_above
  not-above-next i a b r h e f g =
      let inner : eqb i 0 ≡ false = ne_eqb i 0 (λ z. omega arith) in
      rw (inner, e, f, g)

  pub order-said : (i n : ℕ) (r : Bool) → i < n → not_above s l p i ≡ not r → not r ≡ true
      → first_from (order_check s l p) i (n - i) ≡ refused index_order (entry_number l p i)
  unfolding order_check
  order-said i n r h e t = upto-said (order_check s l p) i n h (said refl (e ∙ t))

  pub order-quiet : (i n : ℕ) (r : Bool) → i < n → not_above s l p i ≡ not r → not r ≡ false
      → first_from (order_check s l p) i (n - i) ≡ first_from (order_check s l p) (i + 1) (n - (i + 1))
  unfolding order_check
  order-quiet i n r h e t = upto-quiet (order_check s l p) i n h (quiet index_order (entry_number l p i) refl (e ∙ t))

-- the order of a page's entries from the second on, by the first that falls
module _ (s : List ℕ) (l : Layout) (p : ℕ) where
  abbrev rest : Check
  rest = first_from (order_check s l p) 1 (on_page l p - 1)

  abbrev first-fall : ℕ
  first-fall = fall_from (page_of s p) (entry_size l) l.key_length 1 (on_page l p - 1)

  rest-rising : rest ≡ refused_if (ltb first-fall (1 + (on_page l p - 1))) index_order (entry_number l p first-fall)
  unfolding order_check rises_at
  rest-rising =
      fall-check (page_of s p) (entry_size l) l.key_length (order_check s l p) index_order (entry_number l p) 1 (on_page l p - 1)
      (λ j a b. ap (λ t. refused_if t index_order (entry_number l p j))
      (not-above-next s l p j _ _ _ a refl (page-key s l p (j - 1) (omega arith)) (page-key s l p j (omega arith))))

  module _ (page : List ℕ) (size count fall : ℕ) (e : page ≡ page_of s p) (z : size ≡ entry_size l) (n : count ≡ on_page l p)
      (f : fall ≡ fall_from page size l.key_length 1 (count - 1)) where
    fall-is : fall ≡ first-fall
    fall-is = f ∙ rw (e, z, n)

    rest-told : rest ≡ refused_if (ltb fall (1 + (on_page l p - 1))) index_order (entry_number l p fall)
    rest-told = rest-rising ∙ ap (λ m. refused_if (ltb m (1 + (on_page l p - 1))) index_order (entry_number l p m)) (sym fall-is)

    pub rest-said : fall < count → rest ≡ refused index_order (entry_number l p fall)
    rest-said h = said rest-told (lt-ltb fall (1 + (on_page l p - 1)) (omega arith))

    pub rest-quiet : count ≤ fall → rest ≡ silent
    rest-quiet h =
        let low = fall-low page size l.key_length 1 (count - 1) in
        quiet index_order (entry_number l p fall) rest-told (le-ltb fall (1 + (on_page l p - 1)) (omega (arith, low, f)))
