-- Listing an index, by the full check, then 13: rules I15 and I19.
use Rattle.std.specs.Prelude.{List, [], ◌∷◌, ℕ, length}
use Rattle.refusal.specs.Check.{Check, first}
use Rattle.refusal.specs.Outcome.{Outcome, answered, after}
use Rattle.refusal.specs.Output.{room_check}
use Rattle.index.specs.Check.{full_check}
use Rattle.index_layout.specs.Entries.{list_of}

unfoldable pub list_check : List ℕ → ℕ → Check
list_check s room = first (full_check s) (room_check (length (list_of s)) room)

abbrev pub list_outcome : List ℕ → ℕ → Outcome
list_outcome s room = after (list_check s room) (answered (length (list_of s) ∷ []))
