-- `root_block::ids::check_ids`: each id is in its range before the next is reckoned.
use Rattle.root_block.proofs.Reckoned.{Reckoned}
use Rattle.root_block.proofs.ids.check_ids.Given as goal

abbrev pub invariant-loop-i : goal.invariant-loop-i
invariant-loop-i l = Reckoned l.deltas l.count l.place l.i l.id
