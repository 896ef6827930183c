-- `id_list::ahead`: the place stays from the low end on.
use Prim.Native.Nat.{◌-◌, ◌*◌, ◌≤◌}
use Rattle.id_list.specs.Place.{Between}
use Rattle.id_list.proofs.ahead.Given as goal

abbrev pub invariant-loop-step : goal.invariant-loop-step
invariant-loop-step l = (l.step ≤ 2 * l.n) × Between l.ids l.id l.low l.n

abbrev pub decreases-loop-step : goal.decreases-loop-step
decreases-loop-step l = l.n - l.low
