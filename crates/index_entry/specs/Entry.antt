-- One entry of an index, by its page and slot: rule I27.
use Rattle.std.specs.Prelude.{◌≡◌, cond, ◌&&◌, List, [], ◌∷◌, ℕ, ltb, eqb, Option, Some, None, Result, Ok, Err}
use Rattle.refusal.specs.Outcome.{Outcome, answered, absent, refusal, after}
use Rattle.refusal.specs.Number.{number_of}
use Rattle.refusal.specs.declared.Refusal.{Refusal}
use Rattle.index_layout.specs.declared.Layout.{Layout}
use Rattle.parts.specs.Part.{part_at, parts_from}
use Rattle.index_layout.specs.Layout.{entry_size, on_page, entry_at, layout_of}
use Rattle.index_layout.specs.Entries.{size_at, location_at, archive_of, offset_of, entries_by}
use Rattle.index_open.specs.Open.{opening}
use Rattle.index_entry.specs.declared.Entry.{Entry}

-- The W with which a location has an archive number (rule I13).
abbrev pub archive_width : ℕ
archive_width = 6

-- The archive number of a location of W bytes, 0 where it has none, and its offset (rule I13).
abbrev pub archive_in : (w location : ℕ) → ℕ
archive_in w location = cond (eqb w archive_width) (archive_of location) 0

abbrev pub offset_in : (w location : ℕ) → ℕ
offset_in w location = cond (eqb w archive_width) (offset_of location) location

-- What is told of the entry in slot i of page p: place of its key, K, size, archive, offset, page and slot (rule I27).
unfoldable pub values_at : List ℕ → Layout → ℕ → ℕ → List ℕ
values_at s l p i =
    entry_at l p i
    ∷ l.key_length
    ∷ size_at s l p i
    ∷ archive_in l.offset_width (location_at s l p i)
    ∷ offset_in l.offset_width (location_at s l p i)
    ∷ p
    ∷ i
    ∷ []

-- An index of P pages has those from 0 to P - 1, and a page of m entries the slots from 0 to m - 1 (rules I7, I27).
abbrev pub entry_in : List ℕ → Layout → (page slot : ℕ) → Outcome
entry_in s l p i = cond (ltb p l.pages && ltb i (on_page l p)) (answered (values_at s l p i)) (absent [])

-- By the opening checks alone (rule I27).
abbrev pub entry_outcome : List ℕ → (page slot : ℕ) → Outcome
entry_outcome s p i = after (opening s) (entry_in s (layout_of s) p i)

-- What the declared answers tell.
unfoldable pub values : Entry → List ℕ
values e = e.key_at ∷ e.key_length ∷ e.size ∷ e.archive ∷ e.offset ∷ e.page.0 ∷ e.slot.0 ∷ []

abbrev pub outcome : Result (Option Entry) Refusal → Outcome
outcome (Ok (Some e)) = answered (values e)
outcome (Ok None) = absent []
outcome (Err r) = refusal (number_of r.reason) r.place

-- The bytes of the entry in slot i of page p (rules I5, I7).
abbrev pub stored_entry : List ℕ → Layout → ℕ → ℕ → List ℕ
stored_entry s l p i = part_at s (entry_at l p i) (entry_size l)

-- The entries page by page, and slot by slot, are the list (rules I15, I27).
abbrev pub EntriesOfList : Type 0
EntriesOfList = (s : List ℕ) (l : Layout) → parts_from (λ p. parts_from (λ i. stored_entry s l p i) 0 (on_page l p)) 0 l.pages ≡ entries_by s l
