-- `id_list::ahead`: the place stays from the low end on.
use Prim.Native.Nat.{◌+◌}
use native.Mathlib.Omega.{arith}
use Rattle.id_list.proofs.Laws.{between-after, between-before}
use Rattle.id_list.proofs.ahead.Goals as goal

pub halve-requires : goal.halve-requires
halve-requires c =
    let l = c.loop-step in
    between-before _ _ l.invariant.1 (l.low + l.step) (omega arith) (omega arith) (rw (← c.id_at.ensures) c.if-id-id_at.true)

pub loop-step-preserved : goal.loop-step-preserved
loop-step-preserved c =
    let l = c.loop-step in
    (omega arith, between-after _ _ l.invariant.1 (l.low + l.step) (omega arith) (rw (← c.id_at.ensures) c.if-id-id_at.false))
