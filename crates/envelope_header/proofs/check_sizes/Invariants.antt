-- `envelope_header::check_sizes`: the bytes left after each chunk.
use Rattle.envelope_header.proofs.Laws.{Sized}
use Rattle.envelope_header.proofs.check_sizes.Given as goal

abbrev pub invariant-loop-i : goal.invariant-loop-i
invariant-loop-i l = Sized l.file l.h l.i l.left
