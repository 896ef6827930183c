-- `encoding::check_pages`: no check failed before page i, and the last key is known.
use Prim.Native.Nat.{◌-◌}
use Rattle.encoding.proofs.Laws.{Checked}
use Rattle.encoding.proofs.check_pages.Given as goal

abbrev pub invariant-loop-i : goal.invariant-loop-i
invariant-loop-i l = Checked l.file l.h l.kind l.i l.last

abbrev pub decreases-loop-i : goal.decreases-loop-i
decreases-loop-i l = l.pages - l.i
