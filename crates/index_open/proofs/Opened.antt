-- What an index that passes the opening checks is known to be: its fields in range, its length right, its pages and their entries inside it.
use mathlib.Core.Path.{◌≡◌, refl, sym, ap, ap₂, subst, ◌∙◌}
use mathlib.Core.Bool.{not}
use mathlib.Core.List.{List}
use Prim.Native.Nat.{ℕ, zero, suc, ◌+◌, ◌-◌, ◌*◌, ◌≤◌, ◌<◌, min}
use native.Mathlib.Nat.{zero-add, zero-mul, sub-zero, add-zero, suc-mul, mul-le-mul_left, mul-le-mul_right, div-add-mod', mod-lt, add-mul, one-mul}
use native.Mathlib.Numerals.{add-one-le}
use native.Mathlib.Omega.{arith}
use lib.Dec.{ltb}
use Rattle.numbers.specs.Number.{within}
use Rattle.numbers.proofs.Laws.{within-range}
use lib.ListN.{length, length-append}
use borrow.Author.Tests.{ltb-false, eqb-true, not-false}
use Rattle.parts.specs.Part.{byte_at, parts_from}
use Rattle.parts.proofs.Laws.{part_at-inside}
use Rattle.refusal.specs.Check.{silent, first}
use Rattle.refusal.specs.Number.{index_short, index_length}
use Rattle.refusal.proofs.Laws.{silent-test, first-left, first-right}
use Rattle.index_layout.specs.declared.Layout.{Layout}
use Rattle.index_layout.specs.Layout.{page_size, footer_size, hash_length, offset_width_at, key_length_at, least_offset_width, most_offset_width}
use Rattle.index_layout.specs.Layout.{least_key_length, most_key_length, most_entries, count_check, footer, entry_count_of, key_length_of, offset_width_of}
use Rattle.index_layout.specs.Layout.{entry_size, full, pages_for, placed_on, on_page, page_offset, index_length_of, layout_from, layout_of}
use Rattle.index_open.specs.Open.{short_check, field_check, fields_check, footer_hash_check, footer_reading, length_check, opening}
use Rattle.index_layout.specs.Entries.{entries_of, entries_by, list_of}
use Rattle.index_layout.proofs.Laws.{on-page-placed, on-page-fits, per-page}
use Rattle.index_open.proofs.Laws.{count-within}

pub record Opened (s : List ℕ) : Type 0 where
  pub whole : length s ≡ index_length_of (layout_of s)
  pub offset-low : least_offset_width ≤ offset_width_of (footer s)
  pub offset-high : offset_width_of (footer s) ≤ most_offset_width
  pub key-low : least_key_length ≤ key_length_of (footer s)
  pub key-high : key_length_of (footer s) ≤ most_key_length
  pub count : entry_count_of (footer s) ≤ most_entries
  pub long : footer_size ≤ length s

pub field-range : (f : List ℕ) (at low high number : ℕ) → field_check f at low high number ≡ silent → (low ≤ byte_at f at) × (byte_at f at ≤ high)
field-range f at low high number e =
    within-range low high (byte_at f at) (not-false _ (silent-test (not (within (byte_at f at) low high)) number at e))

-- the offset width is the fifth row of the table, the key length the seventh
fields-range : (f : List ℕ) → fields_check f ≡ silent
    → ((least_offset_width ≤ offset_width_of f) × (offset_width_of f ≤ most_offset_width)) × ((least_key_length ≤ key_length_of f) × (key_length_of f ≤ most_key_length))
fields-range f e =
    let from-reserved = first-right _ _ e in
    let from-second-reserved = first-right _ _ from-reserved in
    let from-page-size = first-right _ _ from-second-reserved in
    let from-offset-width = first-right _ _ from-page-size in
    let from-size-width = first-right _ _ from-offset-width in
    let from-key-length = first-right _ _ from-size-width in (
      field-range f offset_width_at _ _ _ (first-left _ _ from-offset-width),
      field-range f key_length_at _ _ _ (first-left _ _ from-key-length),
    )

pub opened : (s : List ℕ) → opening s ≡ silent → Opened s
opened s e =
    let f : List ℕ = footer s in
    let reading = first-left (footer_reading s) (length_check s) e in
    let foot = first-right (short_check s) (first (fields_check f) (first (footer_hash_check f) (count_check (entry_count_of f)))) reading in
    let fields = fields-range f (first-left (fields_check f) _ foot) in
    record {
      whole = eqb-true (length s) (index_length_of (layout_of s)) (not-false _ (silent-test _ index_length 0 (first-right (footer_reading s) (length_check s) e)));
      offset-low = fields.0.0;
      offset-high = fields.0.1;
      key-low = fields.1.0;
      key-high = fields.1.1;
      count = count-within f foot;
      long = ltb-false (length s) footer_size (silent-test (ltb (length s) footer_size) index_short 0 (first-left (short_check s) _ reading));
    }

-- P pages of e entries hold n, and all but the last are needed
pub pages-hold : (n e : ℕ) → 1 ≤ e → n ≤ pages_for n e * e
unfolding pages_for
pages-hold n e h = omega (arith, div-add-mod' (n + e - 1) e, mod-lt (n + e - 1) h)

pub pages-tight : (n e p : ℕ) → 1 ≤ e → p < pages_for n e → p * e < n
unfolding pages_for
pages-tight n e p h k =
    omega (arith, div-add-mod' (n + e - 1) e, mul-le-mul_right e (add-one-le k), add-mul p 1 e, one-mul e)

-- a page's entries and those after it
page-rest : (n e p : ℕ) → min e (n - p * e) + (n - suc p * e) ≡ n - p * e
page-rest n e p = rw (suc-mul p e) (omega arith)

module _ (s : List ℕ) (o : Opened s) where
  pub size-range : (9 ≤ entry_size (layout_of s)) × (entry_size (layout_of s) ≤ 26)
  unfolding entry_size layout_from
  size-range = omega arith

  pub full-positive : 1 ≤ full (layout_of s)
  unfolding full
  full-positive = (per-page (entry_size (layout_of s)) (omega (arith, size-range.0)) (omega (arith, size-range.1))).0

  -- the pages are those that the entries take
  pages-are : (layout_of s).pages ≡ pages_for (layout_of s).entries (full (layout_of s))
  unfolding full entry_size layout_from
  pages-are = refl

  pub entries-held : (layout_of s).entries ≤ (layout_of s).pages * full (layout_of s)
  entries-held = subst (λ n. (layout_of s).entries ≤ n * full (layout_of s)) (sym pages-are) (pages-hold (layout_of s).entries (full (layout_of s)) full-positive)

  -- entries are left for every page
  pub entries-left : (p : ℕ) → p < (layout_of s).pages → p * full (layout_of s) < (layout_of s).entries
  entries-left p h = pages-tight (layout_of s).entries (full (layout_of s)) p full-positive (rw pages-are at h)

  -- every page has an entry
  pub on-page-some : (p : ℕ) → p < (layout_of s).pages → 1 ≤ on_page (layout_of s) p
  unfolding placed_on
  on-page-some p h = rw (on-page-placed (layout_of s) p) (omega (arith, full-positive, entries-left p h))

  pub pages-inside : page_offset (layout_of s).pages ≤ length s
  unfolding index_length_of
  pages-inside =
      let wide : page_size ≤ page_size + (layout_of s).key_length + hash_length = omega arith in
      omega (arith, o.whole, mul-le-mul_left (layout_of s).pages wide)

  pub page-inside : (p : ℕ) → p < (layout_of s).pages → page_offset p + page_size ≤ length s
  page-inside p h = omega (arith, pages-inside)

  pub entries-length : (p : ℕ) → p < (layout_of s).pages → length (entries_of s (layout_of s) p) ≡ on_page (layout_of s) p * entry_size (layout_of s)
  entries-length p h =
      part_at-inside s (page_offset p) (on_page (layout_of s) p * entry_size (layout_of s)) (omega (arith, page-inside p h, on-page-fits (layout_of s) p))

  -- the list from page p on has the entries that are left
  list_left : (p m : ℕ) → p + m ≡ (layout_of s).pages
      → length (parts_from (entries_of s (layout_of s)) p m) ≡ ((layout_of s).entries - p * full (layout_of s)) * entry_size (layout_of s)
  unfolding parts_from placed_on
  list_left p zero h =
      let none : (layout_of s).entries - p * full (layout_of s) ≡ 0 = rw (sym (add-zero p) ∙ h) (omega (arith, entries-held)) in
      rw (none, zero-mul (entry_size (layout_of s)))
  list_left p (suc m) h =
      let l : Layout = layout_of s in
      let inside : p < l.pages = omega arith in
      let next : suc p + m ≡ l.pages = omega arith in
      length-append (entries_of s l p) (parts_from (entries_of s l) (suc p) m)
      ∙ ap₂ (λ a b. a + b) (entries-length p inside) (list_left (suc p) m next)
      ∙ sym (add-mul (on_page l p) (l.entries - suc p * full l) (entry_size l))
      ∙ ap (λ n. n * entry_size l) (ap (λ n. n + (l.entries - suc p * full l)) (on-page-placed l p) ∙ page-rest l.entries (full l) p)

  pub list_length : length (list_of s) ≡ (layout_of s).entries * entry_size (layout_of s)
  unfolding entries_by
  list_length =
      let l : Layout = layout_of s in
      let all : l.entries - 0 * full l ≡ l.entries = rw (zero-mul (full l)) (sub-zero l.entries) in
      list_left 0 l.pages (zero-add l.pages) ∙ ap (λ n. n * entry_size l) all
