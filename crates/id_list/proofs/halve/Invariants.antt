-- `id_list::halve`: the place stays between the two ends.
use Prim.Native.Nat.{◌-◌}
use Rattle.id_list.specs.Place.{Between}
use Rattle.id_list.proofs.halve.Given as goal

abbrev pub invariant-loop-low : goal.invariant-loop-low
invariant-loop-low l = Between l.ids l.id l.low l.high

abbrev pub decreases-loop-low : goal.decreases-loop-low
decreases-loop-low l = l.high - l.low
