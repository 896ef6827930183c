-- The plain reading of an index: rule L8.
use Rattle.std.specs.Prelude.{cond, List, [], ◌∷◌, ℕ, zero, suc}
use Rattle.parts.specs.Part.{same_bytes}
use Rattle.refusal.specs.Outcome as outcome
use Rattle.refusal.specs.Outcome.{Outcome, answered}
use Rattle.index_layout.specs.declared.Layout.{Layout}
use Rattle.index_layout.specs.Layout.{on_page, layout_of, key_at}
use Rattle.index_layout.specs.Entries.{size_at, location_at}

pub data Plain : Type 0 where
  found : (page slot size location : ℕ) → Plain
  absent : Plain

-- The n entries of page p from slot i on: the first whose whole key is the sought one; else what the pages after it say.
unfoldable pub entries_from : List ℕ → Layout → List ℕ → (p i n : ℕ) → Plain → Plain
entries_from s l sought p i zero after = after
entries_from s l sought p i (suc n) after =
    cond (same_bytes (key_at s l p i) sought) (found p i (size_at s l p i) (location_at s l p i))
    (entries_from s l sought p (suc i) n after)

-- The n pages from page p on. After the last entry: absent.
unfoldable pub pages_from : List ℕ → Layout → List ℕ → (p n : ℕ) → Plain
pages_from s l sought p zero = absent
pages_from s l sought p (suc n) = entries_from s l sought p 0 (on_page l p) (pages_from s l sought (suc p) n)

-- The plain reading for a sought key: the pages from 0, in each the entries from slot 0 (rule L8).
unfoldable pub plain_reading : List ℕ → List ℕ → Plain
plain_reading s sought = pages_from s (layout_of s) sought 0 (layout_of s).pages

-- What a lookup tells that ends as the plain reading does, after some comparisons.
unfoldable pub with_count : Plain → ℕ → Outcome
with_count (found page slot size location) count = answered (page ∷ slot ∷ size ∷ location ∷ count ∷ [])
with_count absent count = outcome.absent (0 ∷ 0 ∷ 0 ∷ 0 ∷ count ∷ [])
