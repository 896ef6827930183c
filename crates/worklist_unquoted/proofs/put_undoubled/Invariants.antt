-- `worklist_unquoted::put_undoubled`: the bytes so far, each doubled quote as one.
use Prim.Native.Nat.{◌-◌}
use lib.ListN.{length}
use Rattle.worklist_unquoted.proofs.Laws.{Put}
use Rattle.worklist_unquoted.proofs.put_undoubled.Given as goal

abbrev pub invariant-loop-at : goal.invariant-loop-at
invariant-loop-at l = Put l.bytes l.initial.output l.output l.to l.at

abbrev pub decreases-loop-at : goal.decreases-loop-at
decreases-loop-at l = length l.bytes - l.at
