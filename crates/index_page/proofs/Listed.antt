-- The entries of a page in the list of the index.
use mathlib.Core.Path.{◌≡◌, sym, ap, ap₂, ◌∙◌}
use mathlib.Core.List.{List, [], append-nil}
use Prim.Native.Nat.{ℕ, ◌+◌, ◌*◌, ◌≤◌, ◌<◌}
use native.Mathlib.Nat.{add-zero, mul-le-mul_right, add-mul, mul_assoc, one-mul}
use native.Mathlib.Numerals.{add-one-le}
use native.Mathlib.Omega.{arith}
use lib.ListN.{length}
use Rattle.parts.specs.Part.{part_at, parts_from}
use Rattle.parts.proofs.Laws.{part-of-part}
use Rattle.parts.proofs.Parts.{parts_at}
use Rattle.index_layout.specs.declared.Layout.{Layout}
use Rattle.index_layout.specs.Layout.{entry_size, full, on_page, page_offset, entry_at, layout_of}
use Rattle.index_layout.specs.Entries.{entries_of, entries_by, list_of}
use Rattle.index_layout.proofs.Laws.{placed-all, on-page-placed, entry-number-placed}
use Rattle.index_open.proofs.Opened.{Opened, opened, entries-left, entries-length}
use Rattle.index_page.specs.Page.{first_entry_of, EntriesOfPage}

module _ (s : List ℕ) (o : Opened s) (p : ℕ) (h : p < (layout_of s).pages) (i : ℕ) (g : i < on_page (layout_of s) p) where
  abbrev l : Layout
  l = layout_of s

  -- the pages before it are full
  before-full : (j : ℕ) → j < p → length (entries_of s l j) ≡ full l * entry_size l
  before-full j b =
      let room : (j + 1) * full l ≤ p * full l = mul-le-mul_right (full l) (add-one-le b) in
      let all : on_page l j ≡ full l =
      on-page-placed l j ∙ placed-all l j (omega (arith, entries-left s o p h, room, add-mul j 1 (full l), one-mul (full l))) in
      entries-length s o j (omega arith) ∙ ap (λ n. n * entry_size l) all

  inside : i * entry_size l + entry_size l ≤ on_page l p * entry_size l
  inside = omega (arith, mul-le-mul_right (entry_size l) (add-one-le g), add-mul i 1 (entry_size l), one-mul (entry_size l))

  -- its entries stand in the list after those of the full pages
  page-listed : part_at (list_of s) (p * (full l * entry_size l)) (on_page l p * entry_size l) ≡ entries_of s l p
  unfolding entries_by
  page-listed =
      let list : List ℕ = parts_from (entries_of s l) 0 l.pages in
      ap₂ (λ r n. part_at r (p * (full l * entry_size l)) n) (sym (append-nil list)) (sym (entries-length s o p h))
      ∙ parts_at (entries_of s l) (full l * entry_size l) l.pages [] p h before-full

  place_is : (first_entry_of l p + i) * entry_size l ≡ p * (full l * entry_size l) + i * entry_size l
  place_is =
      ap (λ n. (n + i) * entry_size l) (entry-number-placed l p 0 ∙ add-zero (p * full l))
      ∙ add-mul (p * full l) i (entry_size l)
      ∙ ap (λ n. n + i * entry_size l) (mul_assoc p (full l) (entry_size l))

  entry_listed : part_at (list_of s) ((first_entry_of l p + i) * entry_size l) (entry_size l) ≡ part_at s (entry_at l p i) (entry_size l)
  unfolding entry_at
  entry_listed =
      ap (λ n. part_at (list_of s) n (entry_size l)) place_is
      ∙ sym (part-of-part (list_of s) (p * (full l * entry_size l)) (on_page l p * entry_size l) (i * entry_size l) (entry_size l) inside)
      ∙ ap (λ r. part_at r (i * entry_size l) (entry_size l)) page-listed
      ∙ part-of-part s (page_offset p) (on_page l p * entry_size l) (i * entry_size l) (entry_size l) inside

pub entries-of-page : EntriesOfPage
entries-of-page s p i e h g = entry_listed s (opened s e) p h i g
