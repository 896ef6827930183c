-- `worklist_joined::copy_rows`: row after row.
use Prim.Native.Nat.{◌-◌}
use lib.ListN.{length}
use Rattle.worklist_joined.proofs.RowLaws.{Copying}
use Rattle.worklist_joined.proofs.copy_rows.Given as goal

abbrev pub invariant-loop-found : goal.invariant-loop-found
invariant-loop-found l = Copying l.separator l.text l.initial.output l.count l.at l.output

abbrev pub decreases-loop-found : goal.decreases-loop-found
decreases-loop-found l = length l.text - l.at
