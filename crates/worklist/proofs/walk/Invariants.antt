-- `worklist::walk`: field after field.
use Prim.Native.Nat.{◌+◌, ◌-◌}
use lib.ListN.{length}
use Rattle.worklist.proofs.Rows.{Walking}
use Rattle.worklist.proofs.walk.Given as goal

abbrev pub invariant-loop-field : goal.invariant-loop-field
invariant-loop-field l = Walking l.separator l.text l.at l.column l.from l.fields l.found

abbrev pub decreases-loop-field : goal.decreases-loop-field
decreases-loop-field l = length l.text + 1 - l.from
