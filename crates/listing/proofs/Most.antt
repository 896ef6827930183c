-- No listing is longer than 655,360 bytes: 15 pages of 455 lines of 96 bytes, and a header.
use mathlib.Core.Path.{◌≡◌}
use mathlib.Core.List.{List}
use Prim.Native.Nat.{ℕ, zero, suc, ◌+◌, ◌*◌, ◌≤◌, zero-le}
use native.Mathlib.Nat.{mul-le-mul_left, suc-mul}
use native.Mathlib.Omega.{arith}
use lib.Dec.{ltb}
use lib.ListN.{length, length-append}
use borrow.Author.Tests.{ltb-false}
use Rattle.parts.specs.Part.{parts_from}
use Rattle.parts.proofs.Laws.{part_at-length}
use Rattle.refusal.specs.Check.{silent}
use Rattle.refusal.specs.Number.{listing_input}
use Rattle.refusal.proofs.Laws.{first-left, first-right, silent-test}
use Rattle.index_layout.specs.declared.Layout.{Layout}
use Rattle.index_layout.specs.Layout.{page_size, hash_length, layout_from, layout_of, full, on_page, index_length_of, entry_at, key_at}
use Rattle.index_open.specs.Open.{opening}
use Rattle.index.specs.Check.{pages_check, full_check}
use Rattle.index_layout.proofs.Laws.{full-fits, on-page-full}
use Rattle.index_open.proofs.Opened.{Opened, opened, size-range}
use Rattle.index_layout.specs.Entries.{size_at, location_at}
use Rattle.listing_lines.specs.Lines.{header}
use Rattle.listing_lines.proofs.Laws.{header-most, entry-most}
use Rattle.listing.specs.Listing.{line, page_text, pages_text, text_by, text_of, input_check, listing_check}

line-most : (s : List ℕ) (l : Layout) (p i : ℕ) → l.key_length ≤ 16 → length (line s l p i) ≤ 96
unfolding line
line-most s l p i h =
    omega (arith, entry-most (key_at s l p i) (size_at s l p i) l.offset_width (location_at s l p i), part_at-length s (entry_at l p i) l.key_length)

parts-most : (f : ℕ → List ℕ) (c i n : ℕ) → ((j : ℕ) → length (f j) ≤ c) → length (parts_from f i n) ≤ n * c
unfolding parts_from
parts-most f c i zero h = zero-le
parts-most f c i (suc n) h =
    rw (length-append (f i) (parts_from f (suc i) n), suc-mul n c) (omega (arith, h i, parts-most f c (suc i) n h))

module _ (s : List ℕ) (o : Opened s) where
  key-most : (layout_of s).key_length ≤ 16
  unfolding layout_from
  key-most = o.key-high

  -- an entry has 9 bytes or more
  full-most : full (layout_of s) ≤ 455
  full-most = omega (arith, full-fits (layout_of s), mul-le-mul_left (full (layout_of s)) (size-range s o).0)

  page-most : (p : ℕ) → length (page_text s (layout_of s) p) ≤ 43680
  unfolding page_text
  page-most p =
      omega (
        arith,
        parts-most (line s (layout_of s) p) 96 0 (on_page (layout_of s) p) (λ i. line-most s (layout_of s) p i key-most),
        on-page-full (layout_of s) p,
        full-most,
      )

  -- a page takes 4,105 bytes or more of the file
  pages-most : length s ≤ 65536 → (layout_of s).pages ≤ 15
  unfolding index_length_of layout_from
  pages-most h =
      let wide : 4105 ≤ page_size + (layout_of s).key_length + hash_length = omega (arith, o.key-low) in
      omega (arith, o.whole, mul-le-mul_left (layout_of s).pages wide)

  listed-most : length s ≤ 65536 → length (text_of s) ≤ 655360
  unfolding text_by pages_text
  listed-most h =
      rw (length-append (header (layout_of s)) (parts_from (page_text s (layout_of s)) 0 (layout_of s).pages))
      (omega (arith, header-most (layout_of s), parts-most (page_text s (layout_of s)) 43680 0 (layout_of s).pages page-most, pages-most h))

-- an input that is listed
both-silent : (s : List ℕ) → listing_check s ≡ silent → (input_check s ≡ silent) × (full_check s ≡ silent)
both-silent s e = (first-left _ _ e, first-right _ _ e)

pub listed : (s : List ℕ) → listing_check s ≡ silent → (length s ≤ 65536) × Opened s
unfolding full_check
listed s e = (
  ltb-false 65536 (length s) (silent-test (ltb 65536 (length s)) listing_input 0 (both-silent s e).0),
  opened s (first-left (opening s) (pages_check s (layout_of s)) (both-silent s e).1),
)

pub text-most : (s : List ℕ) → listing_check s ≡ silent → length (text_of s) ≤ 655360
text-most s e = listed-most s (listed s e).1 (listed s e).0
