-- `spec_table::count`: block after block.
use Prim.Native.Nat.{◌-◌}
use lib.ListN.{length}
use Rattle.spec_table.proofs.Laws.{Counted}
use Rattle.spec_table.proofs.count.Given as goal

abbrev pub invariant-loop-at : goal.invariant-loop-at
invariant-loop-at l = Counted l.table l.found l.at

abbrev pub decreases-loop-at : goal.decreases-loop-at
decreases-loop-at l = length l.table - l.at
