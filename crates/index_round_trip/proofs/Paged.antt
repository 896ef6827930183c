-- A file and a list that have the same entries, page by page: their keys, and the order of these, are the same.
use mathlib.Core.Path.{◌≡◌, sym, ap, ◌∙◌}
use mathlib.Core.Bool.{false, not, ◌&&◌, cond}
use mathlib.Core.List.{List}
use Prim.Native.Nat.{ℕ, zero, suc, ◌+◌, ◌-◌, ◌*◌, ◌≤◌, ◌<◌}
use native.Mathlib.Nat.{zero-mul, suc-mul}
use native.Mathlib.Omega.{arith}
use lib.Dec.{eqb}
use borrow.Author.Tests.{ne_eqb}
use Rattle.parts.specs.Part.{part_at}
use Rattle.key.specs.Order.{compared, is_below}
use Rattle.index_layout.specs.declared.Layout.{Layout}
use Rattle.index_layout.specs.Layout.{entry_size, full, placed_number, on_page, page_offset, key_at}
use Rattle.index.specs.Check.{key_before, not_above}
use Rattle.index_layout.specs.Entries.{entries_of}
use Rattle.index_layout.proofs.Laws.{on-page-placed}
use Rattle.index_file.specs.File.{entries_in, last_key_in}
use Rattle.index_file.specs.Held.{Held}
use Rattle.index_file.proofs.Parts.{placed-key, some-placed, page-full}

-- The key of entry g of a list.
abbrev pub key_of : List ℕ → Layout → ℕ → List ℕ
key_of list l g = part_at list (g * entry_size l) l.key_length

pub record Same (s list : List ℕ) (l : Layout) : Type 0 where
  pub held : Held list l
  pub entries : (p : ℕ) → p < l.pages → entries_of s l p ≡ entries_in list l p

module _ (s list : List ℕ) (l : Layout) (e : Same s list l) where
  pub key-same : (p i : ℕ) → p < l.pages → i < on_page l p → key_at s l p i ≡ key_of list l (placed_number l p i)
  key-same p i k n =
      let placed = ap (λ m. part_at s (page_offset p) (m * entry_size l)) (sym (on-page-placed l p)) ∙ e.entries p k in
      placed-key s list l p placed i (rw (on-page-placed l p) at n)

  pub last-same : (p : ℕ) → p < l.pages → key_at s l p (on_page l p - 1) ≡ last_key_in list l p
  unfolding last_key_in
  last-same p k =
      key-same p (on_page l p - 1) k (omega (arith, on-page-placed l p, (some-placed list l e.held p k).1))
      ∙ ap (λ n. key_of list l (placed_number l p (n - 1))) (on-page-placed l p)

  -- the key before a slot is that of the entry before
  before-inner : (p i : ℕ) → p < l.pages → suc i < on_page l p → key_before s l p (suc i) ≡ key_of list l (placed_number l p (suc i) - 1)
  unfolding key_before
  before-inner p i k n =
      let back : suc i - 1 ≡ i = omega arith in
      let entry : p * full l + i ≡ placed_number l p (suc i) - 1 = omega arith in
      ap (λ b. cond b (key_at s l (p - 1) (on_page l (p - 1) - 1)) (key_at s l p (suc i - 1))) (ne_eqb (suc i) 0 (λ z. omega (arith, z)))
      ∙ ap (key_at s l p) back ∙ key-same p i k (omega arith) ∙ ap (key_of list l) entry

  before-first : (p : ℕ) → suc p < l.pages → key_before s l (suc p) 0 ≡ key_of list l (placed_number l (suc p) 0 - 1)
  unfolding key_before
  before-first p k =
      let back : suc p - 1 ≡ p = omega arith in
      let every : on_page l p ≡ full l = on-page-placed l p ∙ page-full list l e.held p (omega arith) in
      let low = e.held.holds in
      let entry : p * full l + (on_page l p - 1) ≡ placed_number l (suc p) 0 - 1 = omega (arith, every, low, suc-mul p (full l)) in
      ap (λ q. key_at s l q (on_page l q - 1)) back ∙ key-same p (on_page l p - 1) (omega arith) (omega (arith, every, low)) ∙ ap (key_of list l) entry

  before_same : (p i : ℕ) → p < l.pages → i < on_page l p → 1 ≤ placed_number l p i → key_before s l p i ≡ key_of list l (placed_number l p i - 1)
  before_same p (suc i) k n m = before-inner p i k n
  before_same (suc p) zero k n m = before-first p k
  before_same zero zero k n m = absurd (omega (arith, m))

  -- a slot is in order where its entry is
  pub slot-order : (p i : ℕ) → p < l.pages → i < on_page l p → 1 ≤ placed_number l p i
      → not_above s l p i ≡ not (is_below (compared (key_of list l (placed_number l p i - 1)) (key_of list l (placed_number l p i))))
  unfolding not_above
  slot-order p i k n m = rw (later p i m, before_same p i k n m, key-same p i k n)
    where
      later : (p i : ℕ) → 1 ≤ placed_number l p i → (eqb i 0 && eqb p 0) ≡ false
      later p (suc i) m = rw (ne_eqb (suc i) 0 (λ z. omega (arith, z)))
      later (suc p) zero m = rw (ne_eqb (suc p) 0 (λ z. omega (arith, z)))
      later zero zero m = absurd (omega (arith, m, zero-mul (full l)))
