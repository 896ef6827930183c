-- `root_find_path::search`: the walk, with the records of the blocks that are left.
use Prim.Native.Nat.{◌-◌}
use lib.ListN.{length}
use Rattle.root.proofs.Walk.{Walk}
use Rattle.root.proofs.First.{Unsearched}
use Rattle.root_find_path.specs.Path.{named}
use Rattle.root_find_path.proofs.search.Given as goal

abbrev pub invariant-loop-at : goal.invariant-loop-at
invariant-loop-at l = Walk l.file l.l (Unsearched l.file l.l (named l.l l.hash l.locale l.unwanted)) l.at

abbrev pub decreases-loop-at : goal.decreases-loop-at
decreases-loop-at l = length l.file - l.at
