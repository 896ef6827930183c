-- `parts::copy`: so many bytes are pasted as turns are done.
use mathlib.Core.Path.{◌≡◌}
use lib.ListN.{length}
use lib.Seq.{paste}
use Rattle.parts.proofs.copy.Given as goal

abbrev pub invariant-loop-done : goal.invariant-loop-done
invariant-loop-done l = (l.to ≡ paste l.initial.to l.at l.from l.done) × (length l.to ≡ length l.initial.to)
