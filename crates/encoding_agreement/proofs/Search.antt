-- The search of the chosen page, in an encoding file whose pages pass their checks, tells what the plain reading of all pages tells.
use mathlib.Core.Path.{◌≡◌, refl, sym, ap, ◌∙◌}
use mathlib.Core.Bool.{false}
use mathlib.Core.List.{List, [], ◌∷◌}
use Prim.Native.Nat.{ℕ, zero, suc}
use Rattle.parts.proofs.Laws.{by-test}
use Rattle.parts.specs.Part.{same_bytes}
use Rattle.refusal.specs.Check.{silent}
use Rattle.refusal.specs.Outcome.{Outcome, answered}
use Rattle.encoding_header.specs.declared.Kind.{Kind}
use Rattle.encoding_header.specs.declared.Header.{Header}
use Rattle.encoding_header.specs.Header.{table_of, page_end}
use Rattle.std.specs.Prelude.{Result, Ok, Err}
use Rattle.encoding_page.specs.Entries.{Walk, key_at, over_end, search_in, entries_of, all_entries}
use Rattle.encoding.specs.Check.{pages_check}
use Rattle.encoding_index.specs.Chosen.{first_key_above, pages_up_to}
use Rattle.encoding_lookup.specs.Lookup.{page_seek, seek_on, seek, seek_told}
use Rattle.encoding_agreement.specs.Plain.{Plain, found, nowhere, first_with, plain_told}
use Rattle.encoding_agreement.proofs.Pages.{Chosen, chosen, page_up_to, pages-agree}
use Rattle.encoding_agreement.proofs.Checked.{not-over, pages}

-- Where a search of entries ends that finds what the plain reading of them finds.
unfoldable search_of : ℕ → Plain → Result ℕ ℕ
search_of end (found at) = Ok at
search_of end nowhere = Err end

search_is : (key : ℕ → List ℕ) (sought a : List ℕ) (end : ℕ) → search_in key sought a end ≡ search_of end (first_with key sought a)
unfolding search_in first_with search_of
search_is key sought [] end = refl
search_is key sought (at ∷ a) end =
    by-test (same_bytes (key at) sought) (λ t. rw t) (λ t. rw t (search_is key sought a end))

-- What is told of an entry that the plain reading finds is these values.
abbrev Told : (ℕ → Outcome) → (ℕ → List ℕ) → Plain → Type 0
Told told values p = (at : ℕ) → p ≡ found at → told at ≡ answered (values at)

module _ (s : List ℕ) (h : Header) (kind : Kind) (told : ℕ → Outcome) (values : ℕ → List ℕ) where
  -- a page that no entry is over
  page-told : (i end : ℕ) (p : Plain) → over_end s kind (page_end h kind i) end ≡ false → Told told values p
      → seek_told told (page_seek s h kind i (search_of end p)) ≡ plain_told values p
  unfolding search_of page_seek plain_told
  page-told i end (found at) e is = is at refl
  page-told i end nowhere e is = rw e

  module _ (passed : pages_check s h kind ≡ silent) (sought : List ℕ) where
    chosen-told : (c : ℕ) → Chosen (first_key_above s h kind sought) (table_of h kind).pages c
        → Told told values (first_with (key_at s h kind) sought (page_up_to (λ i. (entries_of s h kind i).entries) c))
        → seek_told told (seek_on s h kind sought c)
        ≡ plain_told values (first_with (key_at s h kind) sought (page_up_to (λ i. (entries_of s h kind i).entries) c))
    unfolding seek_on page_up_to first_with plain_told entries_of
    chosen-told zero k is = refl
    chosen-told (suc i) k is =
        let w : Walk = entries_of s h kind i in
        rw (search_is (key_at s h kind) sought w.entries w.end) (page-told i w.end _ (not-over s h kind passed i k.inside) is)

    pub search-told : Told told values (first_with (key_at s h kind) sought (all_entries s h kind))
        → seek_told told (seek s h kind sought) ≡ plain_told values (first_with (key_at s h kind) sought (all_entries s h kind))
    unfolding seek pages_up_to all_entries
    search-told is =
        let c = chosen (first_key_above s h kind sought) (table_of h kind).pages in
        let same = pages-agree (pages s h kind passed) sought _ c in
        chosen-told _ c (λ at f. is at (same ∙ f)) ∙ ap (plain_told values) (sym same)
