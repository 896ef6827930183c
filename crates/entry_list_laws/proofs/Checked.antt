-- The entries of an index that passes the full check: their keys rise, each is whole, and joined they are the list.
use mathlib.Core.Path.{◌≡◌, refl, sym, ap, ap₂, ◌∙◌}
use mathlib.Core.Bool.{true}
use mathlib.Core.List.{List, ◌++◌}
use Prim.Native.Nat.{ℕ, zero, suc, ◌+◌, ◌-◌, ◌<◌}
use native.Mathlib.Nat.{mul-le-mul_right, suc-mul}
use native.Mathlib.Omega.{arith}
use lib.ListN.{length, take}
use Rattle.parts.specs.Part.{parts_from}
use Rattle.parts.proofs.Laws.{part_at-inside}
use Rattle.std.specs.declared.cmp.Ordering.TheVariants.{Less}
use Rattle.key.specs.Order.{compared, is_below}
use Rattle.refusal.specs.Check.{silent}
use Rattle.refusal.proofs.Laws.{first-left, first-right}
use Rattle.index_layout.specs.declared.Layout.{Layout}
use Rattle.index_layout.specs.Layout.{entry_size, on_page, entry_at, layout_of, key_at}
use Rattle.index_layout.specs.Entries.{list_of}
use Rattle.index_layout.proofs.Laws.{on-page-fits}
use Rattle.index_open.specs.Open.{opening}
use Rattle.index_open.proofs.Opened.{Opened, opened, on-page-some, page-inside, size-range}
use Rattle.index.specs.Check.{pages_check, full_check}
use Rattle.index_entry.specs.Entry.{stored_entry}
use Rattle.index_entry.proofs.Listed.{entries-of-list}
use Rattle.index_agreement.proofs.Rising.{next-below, over_below}
use Rattle.entry_list.specs.Entries.{entries_from, pages_from, index_entries, list_entries, joined, sized, below_first, rises}
use Rattle.entry_list.proofs.Lists.{joined-append, joined-from, cut-joined, sized-from, rises-on}
use Rattle.entry_list_laws.specs.Claims.{CheckedRises}
use Rattle.entry_list_laws.proofs.Reading.{entry_key}

-- ---- joined

joined-pages : (s : List ℕ) (l : Layout) (p n : ℕ) → joined (pages_from s l p n) ≡ parts_from (λ q. parts_from (λ i. stored_entry s l q i) 0 (on_page l q)) p n
unfolding joined pages_from parts_from
joined-pages s l p zero = refl
joined-pages s l p (suc n) =
    joined-append (entries_from (stored_entry s l p) 0 (on_page l p)) (pages_from s l (suc p) n)
    ∙ ap₂ ◌++◌ (joined-from (stored_entry s l p) 0 (on_page l p)) (joined-pages s l (suc p) n)

pub joined-is-list : (s : List ℕ) → joined (index_entries s) ≡ list_of s
joined-is-list s = joined-pages s (layout_of s) 0 (layout_of s).pages ∙ entries-of-list s (layout_of s)

-- ---- whole

module _ (s : List ℕ) (o : Opened s) where
  abbrev l : Layout
  l = layout_of s

  entry_whole : (p i : ℕ) → p < l.pages → i < on_page l p → length (stored_entry s l p i) ≡ entry_size l
  unfolding entry_at
  entry_whole p i h k =
      part_at-inside s (entry_at l p i) (entry_size l)
      (omega (arith, page-inside s o p h, on-page-fits l p, mul-le-mul_right (entry_size l) k, suc-mul i (entry_size l)))

  sized-pages : (p n : ℕ) → p + n ≡ l.pages → sized (entry_size l) (pages_from s l p n) ≡ true
  unfolding sized pages_from
  sized-pages p zero e = refl
  sized-pages p (suc n) e =
      sized-from (entry_size l) (stored_entry s l p) (pages_from s l (suc p) n) 0 (on_page l p)
      (λ i a b. entry_whole p i (omega arith) (omega arith)) (sized-pages (suc p) n (omega arith))

  pub entries-whole : sized (entry_size l) (index_entries s) ≡ true
  entries-whole = sized-pages 0 l.pages (omega arith)

  pub entries-cut : list_entries (entry_size l) (list_of s) ≡ index_entries s
  entries-cut =
      ap (list_entries (entry_size l)) (sym (joined-is-list s))
      ∙ cut-joined (entry_size l) (index_entries s) (omega (arith, (size-range s o).0)) entries-whole

  -- ---- rising

  module _ (passed : pages_check s l ≡ silent) where
    abbrev k : ℕ
    k = l.key_length

    key_below : (p i q j : ℕ) → compared (key_at s l p i) (key_at s l q j) ≡ Less
        → is_below (compared (take k (stored_entry s l p i)) (take k (stored_entry s l q j))) ≡ true
    key_below p i q j e = ap is_below (ap₂ compared (entry_key s l p i) (entry_key s l q j) ∙ e)

    last-below : (p n : ℕ) → p + suc n ≡ l.pages → below_first k (stored_entry s l p (on_page l p - 1)) (pages_from s l (suc p) n) ≡ true
    unfolding below_first pages_from entries_from
    last-below p zero e = refl
    last-below p (suc n) e =
        let some = on-page-some s o (suc p) (omega arith) in
        let more : on_page l (suc p) ≡ suc (on_page l (suc p) - 1) = omega arith in
        rw more (key_below p (on_page l p - 1) (suc p) 0 (over_below s l passed p (omega arith) some))

    rises-pages : (p n : ℕ) → p + n ≡ l.pages → rises k (pages_from s l p n) ≡ true
    unfolding rises pages_from
    rises-pages p zero e = refl
    rises-pages p (suc n) e =
        let some = on-page-some s o p (omega arith) in
        rises-on k (stored_entry s l p) (pages_from s l (suc p) n) (on_page l p - 1) (rises-pages (suc p) n (omega arith)) (last-below p n e)
        0 (on_page l p) (omega arith) (λ i a b. key_below p i p (suc i) (next-below s l passed p (omega arith) i (omega arith)))

pub checked-rises : CheckedRises
unfolding full_check
checked-rises s passed =
    let o = opened s (first-left (opening s) _ passed) in
    record {
      rising = rises-pages s o (first-right (opening s) _ passed) 0 (layout_of s).pages (omega arith);
      whole = entries-whole s o;
      list = joined-is-list s;
      cut = entries-cut s o;
    }
