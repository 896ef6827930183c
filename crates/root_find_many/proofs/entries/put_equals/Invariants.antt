-- `root_find_many::entries::put_equals`: one entry more at each turn.
use Prim.Native.Nat.{◌-◌}
use Rattle.id_list.specs.Ids.{id_count}
use Rattle.root_find_many.proofs.Laid.{Putting}
use Rattle.root_find_many.proofs.entries.put_equals.Given as goal

abbrev pub invariant-loop-output : goal.invariant-loop-output
invariant-loop-output l = Putting l.ids l.entry l.id l.from l.i l.initial.output l.output

abbrev pub decreases-loop-output : goal.decreases-loop-output
decreases-loop-output l = id_count l.ids - l.i
