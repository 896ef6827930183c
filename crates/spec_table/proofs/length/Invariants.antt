-- `spec_table::length`: no byte that was passed is 0.
use Rattle.spec_table.proofs.Laws.{Unclosed}
use Rattle.spec_table.proofs.length.Given as goal

abbrev pub invariant-loop-end : goal.invariant-loop-end
invariant-loop-end l = Unclosed l.table l.at l.end
