-- Where the halving rule ends among keys that rise, and how many it compares. No bytes come in here: all that is known of a
-- stored key is how it stands to the sought one.
use mathlib.Core.Path.{◌≡◌, sym, ap, ◌∙◌}
use mathlib.Core.Bool.{true, false, false≢true}
use Prim.Native.Nat.{ℕ, ◌+◌, ◌-◌, ◌≤◌, ◌<◌}
use native.Mathlib.Omega.{arith}
use borrow.Author.Tests.{lt-ltb, le-ltb}
use Rattle.std.specs.declared.cmp.Ordering.TheVariants.{Less, Equal, Greater}
use Rattle.key.specs.Order.{is_below, is_equal}
use Rattle.key.proofs.Laws.{below-not-equal, below-not-above, equal-not-above, is_below-true, is_equal-true}
use Rattle.halving.specs.Halving.{binary_digits}
use Rattle.halving.specs.Claims.{Rising, First}
use Rattle.halving.proofs.Laws.{true-or-false, by_order, halve-first, halve-count, digits-mono}
use Rattle.index_lookup.specs.Lookup.{Stored, Ended, slot_halved, ended_at, ended_on, page_halved, ended_from, ended}

-- Keys that rise: where a later key is not above the sought one, every earlier one is below it, in one page and from page to
-- page. Every page has an entry, and its stored last key stands as that of its last entry.
pub record Sorted (k : Stored) : Type 0 where
  pub some : (p : ℕ) → p < k.pages → 0 < k.entries p
  pub lasts : (p : ℕ) → p < k.pages → k.last p ≡ k.key p (k.entries p - 1)
  pub inside : (p i j : ℕ) → p < k.pages → i < j → j < k.entries p → (k.key p j ≡ Greater → ⊥) → k.key p i ≡ Less
  pub across : (p q i j : ℕ) → p < q → q < k.pages → i < k.entries p → j < k.entries q → (k.key q j ≡ Greater → ⊥) → k.key p i ≡ Less

-- The first equal key stands in slot i of page p: every one before it is below.
pub record FirstEqual (k : Stored) (p i : ℕ) : Type 0 where
  pub page : p < k.pages
  pub slot : i < k.entries p
  pub equal : k.key p i ≡ Equal
  pub inside : (j : ℕ) → j < i → k.key p j ≡ Less
  pub earlier : (q j : ℕ) → q < p → j < k.entries q → k.key q j ≡ Less

-- No key is equal.
pub record NoneEqual (k : Stored) : Type 0 where
  pub none : (p i : ℕ) → p < k.pages → i < k.entries p → k.key p i ≡ Equal → ⊥

-- What an end of a lookup stands for.
pub record Settled (k : Stored) (e : Ended) : Type 0 where
  pub found : e.found ≡ true → FirstEqual k e.page e.slot
  pub absent : e.found ≡ false → NoneEqual k

module _ (k : Stored) (sorted : Sorted k) where
  -- the keys of a page whose last key is below
  all-below : (p i : ℕ) → p < k.pages → is_below (k.last p) ≡ true → i < k.entries p → k.key p i ≡ Less
  all-below p i h below l =
      let last : k.key p (k.entries p - 1) ≡ Less = sym (sorted.lasts p h) ∙ is_below-true _ below in
      by_order i (k.entries p - 1) (λ m. sorted.inside p i _ h m (omega arith) (below-not-above last))
      (λ m. let e : i ≡ k.entries p - 1 = omega arith in ap (k.key p) e ∙ last)

  pages-rise : Rising (λ p. is_below (k.last p)) k.pages
  pages-rise = record {
    earlier = λ p q l h below.
        let here : k.key q (k.entries q - 1) ≡ Less = sym (sorted.lasts q h) ∙ is_below-true _ below in
        let some-p = sorted.some p (omega arith) in
        let some-q = sorted.some q h in
        let before = sorted.across p q (k.entries p - 1) (k.entries q - 1) l h (omega arith) (omega arith) (below-not-above here) in
        ap is_below (sorted.lasts p (omega arith) ∙ before);
  }

  slots-rise : (p : ℕ) → p < k.pages → Rising (λ i. is_below (k.key p i)) (k.entries p)
  slots-rise p h = record {
    earlier = λ i j l m below. ap is_below (sorted.inside p i j h l m (below-not-above (is_below-true _ below)));
  }

  -- no page: every last key is below
  settled-none : k.pages ≤ (page_halved k).place → NoneEqual k
  unfolding page_halved
  settled-none h =
      let f = halve-first _ _ pages-rise in
      record { none = λ p i hp hi e. below-not-equal (all-below p i hp (f.before p (omega arith)) hi) e }

  -- the page p whose last key is the first not below, and its slot i
  module _ (p : ℕ) (h : p < k.pages) (here : First (λ q. is_below (k.last q)) k.pages p) where
    earlier-below : (q j : ℕ) → q < p → j < k.entries q → k.key q j ≡ Less
    earlier-below q j l m = all-below q j (omega arith) (here.before q l) m

    -- a page has a slot that is not below
    some-slot : First (λ i. is_below (k.key p i)) (k.entries p) (k.entries p) → ⊥
    some-slot f =
        let some = sorted.some p h in
        true-or-false (ap is_below (sorted.lasts p h) ∙ f.before (k.entries p - 1) (omega arith)) (here.stops h)

    module _ (i : ℕ) (l : i < k.entries p) (slot : First (λ j. is_below (k.key p j)) (k.entries p) i) where
      settled-found : is_equal (k.key p i) ≡ true → FirstEqual k p i
      settled-found e = record {
        page = h;
        slot = l;
        equal = is_equal-true _ e;
        inside = λ j m. is_below-true _ (slot.before j m);
        earlier = earlier-below;
      }

      not_after : k.key p i ≡ Less → ⊥
      not_after e = true-or-false (ap is_below e) (slot.stops l)

      settled-other : is_equal (k.key p i) ≡ false → NoneEqual k
      settled-other e = record {
        none = λ q j hq hj equal.
            by_order q p (λ m. below-not-equal (earlier-below q j m hj) equal)
            (λ m. by_order p q (λ n. not_after (sorted.across p q i j n hq l hj (equal-not-above equal)))
            (λ n. let same : q ≡ p = omega arith in
            in-page j (rw same at hj) (rw same at equal)));
      }
        where
          in-page : (j : ℕ) → j < k.entries p → k.key p j ≡ Equal → ⊥
          in-page j m equal =
              by_order j i (λ n. below-not-equal (is_below-true _ (slot.before j n)) equal)
              (λ n. by_order i j (λ o. not_after (sorted.inside p i j h o m (equal-not-above equal)))
              (λ o. let same : j ≡ i = omega arith in
              true-or-false (ap is_equal (rw same at equal)) e))

  settled_on : (p count : ℕ) → p < k.pages → First (λ q. is_below (k.last q)) k.pages p → Settled k (ended_on k p count)
  unfolding ended_on ended_at slot_halved
  settled_on p count h here =
      let slot = halve-first _ _ (slots-rise p h) in
      by_order (slot_halved k p).place (k.entries p)
      (λ l. rw (lt-ltb _ _ l) (record { found = settled-found p h here _ l slot; absent = settled-other p h here _ l slot }))
      (λ l. let end : (slot_halved k p).place ≡ k.entries p = omega (arith, slot.inside) in
      absurd (some-slot p h here (rw end at slot)))

  -- Over keys that rise, the halving rule finds the first equal key, or there is none.
  pub settled : Settled k (ended k)
  unfolding ended ended_from page_halved
  settled =
      by_order (page_halved k).place k.pages
      (λ h. rw (lt-ltb _ _ h) (settled_on _ _ h (halve-first _ _ pages-rise)))
      (λ h. rw (le-ltb _ _ h) (record { found = λ e. absurd (false≢true e); absent = λ e. settled-none h }))

-- The comparisons: at most the binary digits of the pages and of the most entries on a page, and 1.
module _ (k : Stored) (most : ℕ) (room : (p : ℕ) → k.entries p ≤ most) where
  count-on : (p count : ℕ) → (ended_on k p count).count ≤ count + binary_digits most + 1
  unfolding ended_on ended_at slot_halved
  count-on p count =
      let few = halve-count (λ i. is_below (k.key p i)) (k.entries p) in
      let more = digits-mono (room p) in
      by_order (slot_halved k p).place (k.entries p) (λ l. rw (lt-ltb _ _ l) (omega arith)) (λ l. rw (le-ltb _ _ l) (omega arith))

  pub ended-count : (ended k).count ≤ binary_digits k.pages + binary_digits most + 1
  unfolding ended ended_from page_halved
  ended-count =
      let few = halve-count (λ p. is_below (k.last p)) k.pages in
      by_order (page_halved k).place k.pages (λ l. rw (lt-ltb _ _ l) (omega (arith, count-on (page_halved k).place (page_halved k).count)))
      (λ l. rw (le-ltb _ _ l) (omega arith))
