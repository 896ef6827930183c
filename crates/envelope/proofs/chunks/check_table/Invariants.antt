-- `envelope::chunks::check_table`: no check failed before chunk i.
use Prim.Native.Nat.{◌-◌}
use Rattle.envelope.proofs.Laws.{Judged}
use Rattle.envelope.proofs.chunks.check_table.Given as goal

abbrev pub invariant-loop-i : goal.invariant-loop-i
invariant-loop-i l = Judged l.file l.h l.i l.at

abbrev pub decreases-loop-i : goal.decreases-loop-i
decreases-loop-i l = l.chunks - l.i
