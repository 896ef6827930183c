-- Laws of one entry of an index.
use mathlib.Core.Path.{◌≡◌, sym, ap, ap₂, ◌∙◌}
use mathlib.Core.Bool.{Bool, true, false, cond, ◌&&◌}
use mathlib.Core.List.{List, []}
use Prim.Native.Nat.{ℕ, ◌≤◌, ◌<◌}
use lib.Dec.{ltb}
use borrow.Author.Tests.{lt-ltb, le-ltb}
use Rattle.refusal.specs.Check.{silent}
use Rattle.refusal.specs.Outcome.{answered, absent}
use Rattle.refusal.proofs.Laws.{after-quiet}
use Rattle.index_layout.specs.declared.Layout.{Layout}
use Rattle.index_layout.specs.Layout.{on_page, layout_of}
use Rattle.index_open.specs.Open.{opening}
use Rattle.index_entry.specs.Entry.{values_at, entry_outcome}

-- the page against the number of pages, the slot against the page's entries
module _ (s : List ℕ) (l : Layout) (p i : ℕ) (quiet : opening s ≡ silent) (e : l ≡ layout_of s) where
  answer-by : (inside : Bool) → (ltb p (layout_of s).pages && ltb i (on_page (layout_of s) p)) ≡ inside
      → cond inside (answered (values_at s (layout_of s) p i)) (absent []) ≡ entry_outcome s p i
  answer-by inside test = sym (after-quiet _ quiet ∙ ap (λ b. cond b (answered (values_at s (layout_of s) p i)) (absent [])) test)

  pub past-pages : l.pages ≤ p → absent [] ≡ entry_outcome s p i
  past-pages h = answer-by false (ap (λ b. b && ltb i (on_page (layout_of s) p)) (le-ltb p (layout_of s).pages (rw e at h)))

  pub past-slots : p < l.pages → on_page l p ≤ i → absent [] ≡ entry_outcome s p i
  past-slots h g = answer-by false (ap₂ ◌&&◌ (lt-ltb p (layout_of s).pages (rw e at h)) (le-ltb i (on_page (layout_of s) p) (rw e at g)))

  pub told : (values : List ℕ) → p < l.pages → i < on_page l p → values ≡ values_at s l p i → answered values ≡ entry_outcome s p i
  told values h g v =
      ap answered (rw e at v) ∙ answer-by true (ap₂ ◌&&◌ (lt-ltb p (layout_of s).pages (rw e at h)) (lt-ltb i (on_page (layout_of s) p) (rw e at g)))
