-- `id_list::halve`: the place stays between the two ends.
use Prim.Native.Nat.{◌+◌, ◌-◌, ◌/◌}
use native.Mathlib.Omega.{arith}
use Rattle.id_list.proofs.Laws.{between-after, between-before, between-met}
use Rattle.id_list.proofs.halve.Goals as goal

pub loop-low-init : goal.loop-low-init
loop-low-init c = c.requires

pub loop-low-preserved-then-id_at-id : goal.loop-low-preserved-then-id_at-id
loop-low-preserved-then-id_at-id c =
    let l = c.loop-low in
    between-after _ _ l.invariant (l.low + (l.high - l.low) / 2) (omega arith) (rw (← c.id_at.ensures) c.if-id_at-id.true)

pub loop-low-preserved : goal.loop-low-preserved
loop-low-preserved c =
    let l = c.loop-low in
    between-before _ _ l.invariant (l.low + (l.high - l.low) / 2) (omega arith) (omega arith) (rw (← c.id_at.ensures) c.if-id_at-id.false)

pub returns : goal.returns
returns c = between-met _ _ c.loop-low.invariant c.loop-low-test.false
