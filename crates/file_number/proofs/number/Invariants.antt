-- `file_number::number`: the digits passed tell the number so far.
use Rattle.file_number.proofs.Laws.{Sum}
use Rattle.file_number.proofs.number.Given as goal

abbrev pub invariant-loop-at : goal.invariant-loop-at
invariant-loop-at l = Sum l.text l.n l.at
