-- `id_list::check`: 12, then 161 for the ids that are left.
use mathlib.Core.Path.{◌≡◌}
use Prim.Native.Nat.{◌-◌}
use Rattle.refusal.specs.Check.{first_from}
use Rattle.id_list.specs.Ids.{id_count, fall_check}
use Rattle.id_list.proofs.check.Given as goal

abbrev pub invariant-loop-i : goal.invariant-loop-i
invariant-loop-i l = first_from (fall_check l.ids) 1 (id_count l.ids - 1) ≡ first_from (fall_check l.ids) l.i (id_count l.ids - l.i)
