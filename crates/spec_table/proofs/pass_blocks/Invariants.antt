-- `spec_table::pass_blocks`: a block with fewer zero bytes than are left is passed.
use Prim.Native.Nat.{◌-◌, ◌≤◌}
use lib.ListN.{length}
use Rattle.spec_table.proofs.Laws.{Begins}
use Rattle.spec_table.proofs.pass_blocks.Given as goal

abbrev pub invariant-loop-at : goal.invariant-loop-at
invariant-loop-at l = Begins l.table l.number l.left l.at × (l.at ≤ length l.table)

abbrev pub decreases-loop-at : goal.decreases-loop-at
decreases-loop-at l = length l.table - l.at
