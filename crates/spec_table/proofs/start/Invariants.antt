-- `spec_table::start`: byte by byte in the block where the string begins.
use Rattle.spec_table.proofs.Laws.{Begins}
use Rattle.spec_table.proofs.start.Given as goal

abbrev pub invariant-loop-at : goal.invariant-loop-at
invariant-loop-at l = Begins l.table l.number l.left l.at
