-- `spec_table::zeros`: one more where a byte is 0.
use Rattle.spec_table.proofs.Laws.{Counted}
use Rattle.spec_table.proofs.zeros.Given as goal

abbrev pub invariant-loop-b : goal.invariant-loop-b
invariant-loop-b l = Counted l.block l.found l.b-index
