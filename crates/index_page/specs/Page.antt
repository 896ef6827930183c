-- Where a page of an index and its parts stand: rule I31.
use Rattle.std.specs.Prelude.{◌≡◌, cond, List, [], ◌∷◌, ℕ, ◌+◌, ◌*◌, ◌<◌, min, ltb, Option, Some, None, Result, Ok, Err}
use Rattle.parts.specs.Part.{part_at}
use Rattle.refusal.specs.Check.{silent}
use Rattle.refusal.specs.Outcome.{Outcome, answered, absent, refusal, after}
use Rattle.refusal.specs.Number.{number_of}
use Rattle.refusal.specs.declared.Refusal.{Refusal}
use Rattle.index_layout.specs.declared.Layout.{Layout}
use Rattle.index_layout.specs.Layout.{page_size, hash_length, entry_size, on_page, entry_number, page_offset, entry_at}
use Rattle.index_layout.specs.Layout.{last_key_offset, page_hash_at, layout_of}
use Rattle.index_layout.specs.Entries.{list_of}
use Rattle.index_open.specs.Open.{opening}
use Rattle.index_page.specs.declared.Places.{Places}

-- The first entry of a page is that of its slot 0 (rule I7).
abbrev pub first_entry_of : Layout → ℕ → ℕ
first_entry_of l p = entry_number l p 0

-- What is told of page p: place and length of the page, of its stored last key and of its stored hash, the number of its first
-- entry, and how many entries it has (rules I7, I9, I31).
abbrev pub values_of : Layout → ℕ → List ℕ
values_of l p =
    page_offset p
    ∷ page_size
    ∷ last_key_offset l p
    ∷ l.key_length
    ∷ page_hash_at l p
    ∷ hash_length
    ∷ first_entry_of l p
    ∷ on_page l p
    ∷ []

-- An index of P pages has those from 0 to P - 1 (rule I31).
abbrev pub page_in : Layout → ℕ → Outcome
page_in l p = cond (ltb p l.pages) (answered (values_of l p)) (absent [])

-- By the opening checks alone (rule I31).
abbrev pub page_outcome : List ℕ → ℕ → Outcome
page_outcome s p = after (opening s) (page_in (layout_of s) p)

-- What the declared answers tell.
abbrev pub values : Places → List ℕ
values p =
    p.page_at
    ∷ page_size
    ∷ p.last_key_at
    ∷ p.key_length
    ∷ p.hash_at
    ∷ hash_length
    ∷ p.first_entry
    ∷ p.entries
    ∷ []

abbrev pub outcome : Result (Option Places) Refusal → Outcome
outcome (Ok (Some p)) = answered (values p)
outcome (Ok None) = absent []
outcome (Err r) = refusal (number_of r.reason) r.place

-- The page of a number that comes from outside: the greatest that the code holds for any above it. No index has that page, so the
-- answer is that of the number itself (`PageOfNumber`).
abbrev pub greatest_page : ℕ
greatest_page = 4294967295

abbrev pub page_of_number : ℕ → ℕ
page_of_number number = min number greatest_page

abbrev pub PageOfNumber : Type 0
PageOfNumber = (s : List ℕ) (number : ℕ) → page_outcome s (page_of_number number) ≡ page_outcome s number

-- In the list, the entry with the number `first + i` is the one in slot i of page p (rules I15, I31).
abbrev pub EntriesOfPage : Type 0
EntriesOfPage =
    (s : List ℕ) (p i : ℕ) → opening s ≡ silent → p < (layout_of s).pages → i < on_page (layout_of s) p
    → part_at (list_of s) ((first_entry_of (layout_of s) p + i) * entry_size (layout_of s)) (entry_size (layout_of s))
    ≡ part_at s (entry_at (layout_of s) p i) (entry_size (layout_of s))
