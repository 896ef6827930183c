-- The lookup of a key in an archive index: rules L3 to L7 and L10.
use Rattle.std.specs.Prelude.{Bool, false, not, cond, List, [], ◌∷◌, ◌++◌, ℕ, ◌+◌, ltb, eqb, length, Option, Some, None, Result, Ok, Err}
use Rattle.parts.specs.Part.{part_at}
use Rattle.std.specs.declared.cmp.Ordering.{Ordering}
use Rattle.key.specs.Order.{compared, is_below, is_equal}
use Rattle.refusal.specs.Check.{Check, refused_if, first}
use Rattle.refusal.specs.Number.{index_key_length, number_of}
use Rattle.refusal.specs.Outcome.{Outcome, answered, absent, refusal, after, outcome_by}
use Rattle.refusal.specs.declared.Refusal.{Refusal}
use Rattle.halving.specs.declared.Halved.{Halved}
use Rattle.halving.specs.Halving.{halve, binary_digits}
use Rattle.index_layout.specs.declared.Layout.{Layout}
use Rattle.index_layout.specs.declared.Page.{Page}
use Rattle.index_layout.specs.declared.Slot.{Slot}
use Rattle.index_layout.specs.Layout.{full, on_page, last_key_offset, layout_of, key_at}
use Rattle.index_layout.specs.Entries.{size_at, location_at}
use Rattle.index_open.specs.Open.{opening}
use Rattle.index_lookup.specs.declared.Entry.{Entry}
use Rattle.index_lookup.specs.declared.Answer.{Answer}
use Rattle.index_lookup.specs.declared.End.{End}

-- How the stored keys of an index stand to a sought one: the last key of each page, and the key of each entry on a page.
pub record Stored : Type 0 where
  pub pages : ℕ
  pub entries : ℕ → ℕ
  pub last : ℕ → Ordering
  pub key : ℕ → ℕ → Ordering

unfoldable pub stored_in : List ℕ → Layout → List ℕ → Stored
stored_in s l sought = record {
  pages = l.pages;
  entries = on_page l;
  last = λ p. compared (part_at s (last_key_offset l p) l.key_length) sought;
  key = λ p i. compared (key_at s l p i) sought;
}

-- Where a lookup ends, with the comparisons of stored keys so far (rule L5), and whether the key there is the sought one.
pub record Ended : Type 0 where
  pub page : ℕ
  pub slot : ℕ
  pub count : ℕ
  pub found : Bool

-- The page or the slot where a halving ended, as the declared answers of the code have them (rule L7).
abbrev pub page_end : End Page → Halved
page_end r = record { place = r.place.0; count = r.compared }

abbrev pub slot_end : End Slot → Halved
slot_end r = record { place = r.place.0; count = r.compared }

-- The halving rule on a page's entries: no slot means absent; else one more comparison tells found or absent (rule L4).
unfoldable pub slot_halved : Stored → ℕ → Halved
slot_halved k p = halve (λ i. is_below (k.key p i)) (k.entries p)

unfoldable pub ended_at : Stored → (page count : ℕ) → Halved → Ended
ended_at k p count h =
    cond (ltb h.place (k.entries p))
    (record { page = p; slot = h.place; count = count + h.count + 1; found = is_equal (k.key p h.place) })
    (record { page = p; slot = h.place; count = count + h.count; found = false })

unfoldable pub ended_on : Stored → (page count : ℕ) → Ended
ended_on k p count = ended_at k p count (slot_halved k p)

-- The halving rule on the last keys: no page means absent; else on that page's entries (rule L4).
unfoldable pub page_halved : Stored → Halved
page_halved k = halve (λ p. is_below (k.last p)) k.pages

unfoldable pub ended_from : Stored → Halved → Ended
ended_from k h =
    cond (ltb h.place k.pages) (ended_on k h.place h.count)
    (record { page = k.pages; slot = 0; count = h.count; found = false })

unfoldable pub ended : Stored → Ended
ended k = ended_from k (page_halved k)

-- What a lookup gives that ends there: page, slot, size, location and comparisons; of an absent key, the comparisons (rule L6).
unfoldable pub end_outcome : List ℕ → Layout → Ended → Outcome
end_outcome s l e =
    cond e.found
    (answered (e.page ∷ e.slot ∷ size_at s l e.page e.slot ∷ location_at s l e.page e.slot ∷ e.count ∷ []))
    (absent (0 ∷ 0 ∷ 0 ∷ 0 ∷ e.count ∷ []))

-- 10: the sought key is not K bytes (rule L3).
unfoldable pub key_check : Layout → List ℕ → Check
key_check l sought = refused_if (not (eqb (length sought) l.key_length)) index_key_length 0

-- The lookup: the opening checks, 10 (rule L3), then the halving rule (rule L4).
unfoldable pub lookup_of : List ℕ → List ℕ → Outcome
lookup_of s sought =
    after (first (opening s) (key_check (layout_of s) sought)) (end_outcome s (layout_of s) (ended (stored_in s (layout_of s) sought)))

-- The most comparisons: the binary digits of P and of E, and 1 (rule L10).
unfoldable pub most_of : Layout → ℕ
most_of l = binary_digits l.pages + binary_digits (full l) + 1

unfoldable pub bound_of : List ℕ → Outcome
bound_of s = after (opening s) (answered (most_of (layout_of s) ∷ []))

-- What the declared answers tell: of a found entry its values, and of each lookup the comparisons.
abbrev pub values : Entry → List ℕ
values e = e.page.0 ∷ e.slot.0 ∷ e.size ∷ e.location ∷ []

abbrev pub told_with : ℕ → Option Entry → Outcome
told_with count (Some e) = answered (values e ++ count ∷ [])
told_with count None = absent (0 ∷ 0 ∷ 0 ∷ 0 ∷ count ∷ [])

abbrev pub told : Answer → Outcome
told r = told_with r.compared r.found

abbrev pub outcome : Result Answer Refusal → Outcome
outcome (Ok r) = told r
outcome (Err r) = refusal (number_of r.reason) r.place

abbrev pub bound_outcome : Result ℕ Refusal → Outcome
bound_outcome = outcome_by (λ n. n ∷ [])
