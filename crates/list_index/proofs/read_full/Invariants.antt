-- `list_index::read_full`: what was read stands in the room.
use Rattle.std.proofs.Common.{length, ◌-◌, ◌≤◌}
use Rattle.list_index.proofs.read_full.Given as goal

abbrev pub invariant-loop-at : goal.invariant-loop-at
invariant-loop-at g l = l.at ≤ length l.room

abbrev pub decreases-loop-at : goal.decreases-loop-at
decreases-loop-at g l = length l.room - l.at
