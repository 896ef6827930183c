-- Demand 3 of a lookup that comes after the full check: rule L11.
use Rattle.std.specs.Prelude.{List, [], ◌∷◌, ℕ}
use Rattle.refusal.specs.Check.{first}
use Rattle.refusal.specs.Outcome.{Outcome, answered, after}
use Rattle.index_layout.specs.Layout.{layout_of}
use Rattle.index.specs.Check.{full_check}
use Rattle.index_lookup.specs.Lookup.{key_check, most_of}
use Rattle.index_agreement.specs.Plain.{plain_reading, with_count}
use Rattle.index_agreement.specs.LookupAgrees.{comparisons}

-- The full check, 10 for a key of another length, and nothing else is refused; then what the plain reading finds, with the same
-- page, slot, size and location, and the number of keys that the halving rule compares.
unfoldable pub checked_lookup : List ℕ → List ℕ → Outcome
checked_lookup s sought =
    after (first (full_check s) (key_check (layout_of s) sought)) (with_count (plain_reading s sought) (comparisons s sought))

-- The bound: the binary digits of P and of E, and 1.
unfoldable pub checked_bound : List ℕ → Outcome
checked_bound s = after (full_check s) (answered (most_of (layout_of s) ∷ []))
