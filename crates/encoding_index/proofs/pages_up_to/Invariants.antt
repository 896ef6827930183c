-- `encoding_index::pages_up_to`: the pages passed are above.
use mathlib.Core.Path.{◌≡◌}
use Rattle.encoding_index.specs.Chosen.{up_to, first_key_above, pages_up_to}
use Rattle.encoding_index.proofs.pages_up_to.Given as goal

abbrev pub invariant-loop-n : goal.invariant-loop-n
invariant-loop-n l = pages_up_to l.file l.h l.kind l.key ≡ up_to (first_key_above l.file l.h l.kind l.key) l.n

abbrev pub decreases-loop-n : goal.decreases-loop-n
decreases-loop-n l = l.n
