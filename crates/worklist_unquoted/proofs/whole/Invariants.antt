-- `worklist_unquoted::whole`: what is behind the bytes passed decides.
use Rattle.worklist_unquoted.proofs.Laws.{Scanned}
use Rattle.worklist_unquoted.proofs.whole.Given as goal

abbrev pub invariant-loop-at : goal.invariant-loop-at
invariant-loop-at l = Scanned l.field l.closed l.at
