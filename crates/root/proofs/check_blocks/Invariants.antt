-- `root::check_blocks`: the walk, with the check of the blocks that are left.
use Prim.Native.Nat.{◌-◌}
use lib.ListN.{length}
use Rattle.root.proofs.Walk.{Walk, Unchecked}
use Rattle.root.proofs.check_blocks.Given as goal

abbrev pub invariant-loop-place : goal.invariant-loop-place
invariant-loop-place l = Walk l.file l.l (Unchecked l.file l.l) l.place

abbrev pub decreases-loop-place : goal.decreases-loop-place
decreases-loop-place l = length l.file - l.place
