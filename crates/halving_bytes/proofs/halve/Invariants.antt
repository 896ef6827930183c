-- `halving_bytes::halve` meets its contract: each turn leaves what the halving rule leaves.
use Rattle.halving.specs.Halving.{is_key_below}
use Rattle.halving_bytes.proofs.Laws.{Reached}
use Rattle.halving_bytes.proofs.halve.Given as goal

abbrev pub invariant-loop-left : goal.invariant-loop-left
invariant-loop-left l = Reached (is_key_below l.keys l.stride l.key) l.count l.start l.left l.compared

abbrev pub decreases-loop-left : goal.decreases-loop-left
decreases-loop-left l = l.left
