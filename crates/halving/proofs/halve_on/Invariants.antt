-- `halving::halve_on` meets its contract: each turn makes a step of the halving rule.
use Rattle.halving.specs.Halving.{is_key_below}
use Rattle.halving.specs.Range.{Leads}
use Rattle.halving.proofs.halve_on.Given as goal

abbrev pub invariant-loop-r : goal.invariant-loop-r
invariant-loop-r l = Leads (is_key_below l.keys l.stride l.key) l.initial.r l.r

abbrev pub decreases-loop-r : goal.decreases-loop-r
decreases-loop-r l = l.r.left
