-- `numbers::little_inside`: the number so far is that of the bytes past those left, and the byte before them is its lowest.
use mathlib.Core.Path.{◌≡◌}
use Prim.Native.Nat.{suc, ◌+◌, ◌-◌, ◌^◌, ◌<◌}
use native.Mathlib.Nat.{add-zero, sub_self}
use native.Mathlib.Omega.{arith}
use lib.Dec.{lit<}
use Rattle.numbers.specs.Number.{little_at}
use Rattle.numbers.proofs.Laws.{little_at-below, little_at-first, one-more-fits}
use Rattle.numbers.proofs.little_inside.Goals as goal

pub loop-left-init : goal.loop-left-init
unfolding little_at
loop-left-init c = rw sub_self

pub overflow_mul-number : goal.overflow_mul-number
overflow_mul-number c =
    let w = c.args.width - c.loop-left.left in
    let below : c.loop-left.number < 256 ^ w =
    rw c.loop-left.invariant (little_at-below c.args.s.now (λ i. (c.type_inv.s i).fits) (c.args.at + c.loop-left.left) w) in
    simp add-zero at (one-more-fits {byte = 0} {w = w} (omega arith) below (lit< tt))

pub overflow_add-number : goal.overflow_add-number
overflow_add-number c =
    let w = c.args.width - c.loop-left.left in
    let below : c.loop-left.number < 256 ^ w =
    rw c.loop-left.invariant (little_at-below c.args.s.now (λ i. (c.type_inv.s i).fits) (c.args.at + c.loop-left.left) w) in
    one-more-fits {w = w} (omega arith) below (rw c.from.ensures (c.type_inv.s _).fits)

pub loop-left-preserved : goal.loop-left-preserved
loop-left-preserved c =
    let a = c.args in
    let l = c.loop-left in
    let more : a.width - (l.left - 1) ≡ suc (a.width - l.left) = omega arith in
    let next : a.at + (l.left - 1) + 1 ≡ a.at + l.left = omega arith in
    rw (more, little_at-first, next, l.invariant, c.from.ensures)
