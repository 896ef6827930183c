-- `halving::halve_eights` meets its contract: each turn makes three steps of the halving rule.
use Rattle.halving.specs.Halving.{is_key_below}
use Rattle.halving.specs.Range.{whole, Leads}
use Rattle.halving.proofs.halve_eights.Given as goal

abbrev pub invariant-loop-r : goal.invariant-loop-r
invariant-loop-r l = Leads (is_key_below l.keys l.stride l.key) (whole l.count) l.r

abbrev pub decreases-loop-r : goal.decreases-loop-r
decreases-loop-r l = l.r.left
