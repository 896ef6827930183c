-- Laws of a page of an index.
use mathlib.Core.Path.{◌≡◌, refl, sym, ap, ◌∙◌}
use mathlib.Core.Bool.{cond}
use mathlib.Core.List.{List, []}
use Prim.Native.Nat.{ℕ, ◌≤◌, ◌<◌, min}
use native.Mathlib.Nat.{mul-le-mul_left}
use native.Mathlib.Decide.{dec_lt}
use native.Mathlib.Omega.{arith}
use borrow.Author.Tests.{lt-ltb, le-ltb}
use Rattle.refusal.specs.Check.{Check, silent, refused}
use Rattle.refusal.specs.Outcome.{answered, absent, after}
use Rattle.refusal.proofs.Laws.{after-quiet, after-said}
use Rattle.index_layout.specs.declared.Layout.{Layout}
use Rattle.index_layout.specs.Layout.{layout_from, layout_of}
use Rattle.index_open.specs.Open.{opening}
use Rattle.index_open.proofs.Opened.{opened, full-positive, entries-left}
use Rattle.index_page.specs.Page.{values_of, page_in, page_outcome, greatest_page, page_of_number, PageOfNumber}

-- the page against the count of pages
module _ (s : List ℕ) (l : Layout) (p : ℕ) (quiet : opening s ≡ silent) (e : l ≡ layout_of s) where
  pub past_all : l.pages ≤ p → absent [] ≡ page_outcome s p
  past_all h =
      sym (after-quiet _ quiet ∙ ap (λ b. cond b (answered (values_of (layout_of s) p)) (absent [])) (le-ltb p (layout_of s).pages (rw e at h)))

  pub told : (values : List ℕ) → p < l.pages → values ≡ values_of l p → answered values ≡ page_outcome s p
  told values h v =
      ap answered (rw e at v)
      ∙ sym (after-quiet _ quiet ∙ ap (λ b. cond b (answered (values_of (layout_of s) p)) (absent [])) (lt-ltb p (layout_of s).pages (rw e at h)))

-- no index has the greatest page
pages-few : (s : List ℕ) → opening s ≡ silent → (layout_of s).pages ≤ greatest_page
unfolding layout_from
pages-few s quiet = go (dec_lt greatest_page (layout_of s).pages)
  where
    go : Dec (greatest_page < (layout_of s).pages) → (layout_of s).pages ≤ greatest_page
    go (yes more) =
        let o = opened s quiet in
        absurd (omega (arith, entries-left s o greatest_page more, mul-le-mul_left greatest_page (full-positive s o), o.count))
    go (no most) = omega arith

-- a number above it is absent, as that page is
page-absent : (l : Layout) (p : ℕ) → l.pages ≤ p → page_in l p ≡ absent []
page-absent l p h = ap (λ b. cond b (answered (values_of l p)) (absent [])) (le-ltb p l.pages h)

page-in : (l : Layout) (m n : ℕ) → l.pages ≤ greatest_page → m ≡ min n greatest_page → page_in l m ≡ page_in l n
page-in l m n few e = go (dec_lt greatest_page n)
  where
    go : Dec (greatest_page < n) → page_in l m ≡ page_in l n
    go (yes over) = page-absent l m (omega arith) ∙ sym (page-absent l n (omega arith))
    go (no under) = let same : m ≡ n = omega arith in ap (page_in l) same

pub page-of-number : PageOfNumber
page-of-number s number = go (opening s) refl
  where
    go : (k : Check) → opening s ≡ k → page_outcome s (page_of_number number) ≡ page_outcome s number
    go silent e = ap (after (opening s)) (page-in (layout_of s) (page_of_number number) number (pages-few s e) refl)
    go (refused n p) e = after-said _ e ∙ sym (after-said _ e)
