-- Laws of the plain reading: it stops at the first equal key, where a lookup among keys that rise ends.
use mathlib.Core.Path.{◌≡◌, refl, sym, ap, ◌∙◌}
use mathlib.Core.Bool.{Bool, true, false}
use mathlib.Core.List.{List}
use Prim.Native.Nat.{ℕ, zero, suc, ◌+◌, ◌≤◌, ◌<◌}
use native.Mathlib.Omega.{arith}
use Rattle.parts.specs.Part.{same_bytes}
use Rattle.parts.proofs.Laws.{same_bytes-not}
use Rattle.key.specs.Order.{is_equal}
use Rattle.key.proofs.Laws.{equal-of-eq, equal-is-same}
use Rattle.halving.proofs.Laws.{by_order}
use Rattle.index_layout.specs.declared.Layout.{Layout}
use Rattle.index_layout.specs.Layout.{on_page, layout_of, key_at}
use Rattle.index_layout.specs.Entries.{size_at, location_at}
use Rattle.index_lookup.specs.Lookup.{stored_in, Ended, end_outcome}
use Rattle.index_agreement.specs.Plain.{Plain, found, absent, entries_from, pages_from, plain_reading, with_count}
use Rattle.index_agreement.proofs.Agreement.{Settled}

module _ (s : List ℕ) (l : Layout) (sought : List ℕ) where
  entries_none : (p i n : ℕ) (after : Plain) → ((j : ℕ) → j < i + n → same_bytes (key_at s l p j) sought ≡ false)
      → entries_from s l sought p i n after ≡ after
  unfolding entries_from
  entries_none p i zero after h = refl
  entries_none p i (suc n) after h = rw (h i (omega arith)) (entries_none p (suc i) n after (λ j m. h j (omega arith)))

  entries-found : (p i n j : ℕ) (after : Plain) → i ≤ j → j < i + n → ((m : ℕ) → m < j → same_bytes (key_at s l p m) sought ≡ false)
      → same_bytes (key_at s l p j) sought ≡ true → entries_from s l sought p i n after ≡ found p j (size_at s l p j) (location_at s l p j)
  unfolding entries_from
  entries-found p i zero j after low high h e = absurd (omega arith)
  entries-found p i (suc n) j after low high h e =
      by_order i j (λ m. rw (h i m) (entries-found p (suc i) n j after m (omega arith) h e))
      (λ m. let same : i ≡ j = omega arith in rw (same, e))

  pages-none : (p n : ℕ) → ((q j : ℕ) → q < p + n → j < on_page l q → same_bytes (key_at s l q j) sought ≡ false) → pages_from s l sought p n ≡ absent
  unfolding pages_from
  pages-none p zero h = refl
  pages-none p (suc n) h =
      entries_none p 0 (on_page l p) _ (λ j m. h p j (omega arith) (omega arith)) ∙ pages-none (suc p) n (λ q j m. h q j (omega arith))

  pages-found : (p n q j : ℕ) → p ≤ q → q < p + n → j < on_page l q → ((m : ℕ) → m < j → same_bytes (key_at s l q m) sought ≡ false)
      → ((r m : ℕ) → r < q → m < on_page l r → same_bytes (key_at s l r m) sought ≡ false) → same_bytes (key_at s l q j) sought ≡ true
      → pages_from s l sought p n ≡ found q j (size_at s l q j) (location_at s l q j)
  unfolding pages_from
  pages-found p zero q j low high slot inside earlier e = absurd (omega arith)
  pages-found p (suc n) q j low high slot inside earlier e =
      by_order p q
      (λ m. entries_none p 0 (on_page l p) _ (λ i o. earlier p i m (omega arith)) ∙ pages-found (suc p) n q j m (omega arith) slot inside earlier e)
      (λ m. let same : p ≡ q = omega arith in
      rw same (entries-found q 0 (on_page l q) j _ (omega arith) (omega arith) inside e))

-- What is told of an end that is settled is what the plain reading says, with the comparisons.
module _ (s sought : List ℕ) (e : Ended) (end : Settled (stored_in s (layout_of s) sought) e) where
  reads-found : e.found ≡ true
      → plain_reading s sought ≡ found e.page e.slot (size_at s (layout_of s) e.page e.slot) (location_at s (layout_of s) e.page e.slot)
  unfolding plain_reading stored_in
  reads-found t =
      let f = end.found t in
      pages-found s (layout_of s) sought 0 (layout_of s).pages e.page e.slot (omega arith) (omega (arith, f.page)) f.slot
      (λ i h. sym (equal-is-same _ sought) ∙ ap is_equal (f.inside i h))
      (λ q i h m. sym (equal-is-same _ sought) ∙ ap is_equal (f.earlier q i h m))
      (sym (equal-is-same _ sought) ∙ ap is_equal f.equal)

  reads_none : e.found ≡ false → plain_reading s sought ≡ absent
  unfolding plain_reading stored_in
  reads_none t =
      pages-none s (layout_of s) sought 0 (layout_of s).pages
      (λ q i h m. same_bytes-not _ sought (λ same. (end.absent t).none q i (omega arith) m (equal-of-eq _ sought same)))

  pub reads : end_outcome s (layout_of s) e ≡ with_count (plain_reading s sought) e.count
  unfolding end_outcome with_count
  reads = go e.found refl
    where
      go : (b : Bool) → e.found ≡ b → end_outcome s (layout_of s) e ≡ with_count (plain_reading s sought) e.count
      go true t = rw (t, reads-found t)
      go false t = rw (t, reads_none t)
