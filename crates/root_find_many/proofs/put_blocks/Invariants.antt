-- `root_find_many::put_blocks`: the walk, with the entries after the blocks so far.
use Prim.Native.Nat.{◌-◌}
use lib.ListN.{length}
use Rattle.root.proofs.Walk.{Walk}
use Rattle.root_find_many.specs.Entries.{Kept}
use Rattle.root_find_many.proofs.Seen.{Unseen}
use Rattle.root_find_many.proofs.put_blocks.Given as goal

abbrev pub invariant-loop-at : goal.invariant-loop-at
invariant-loop-at l = Kept l.ids l.initial.output l.output × Walk l.file l.l (Unseen l.file l.l l.locale l.unwanted l.ids l.output) l.at

abbrev pub decreases-loop-at : goal.decreases-loop-at
decreases-loop-at l = length l.file - l.at
