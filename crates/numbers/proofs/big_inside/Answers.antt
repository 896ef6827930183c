-- `numbers::big_inside`: the number so far is that of the bytes read, and one more byte is its lowest.
use mathlib.Core.Path.{refl}
use Prim.Native.Nat.{◌^◌, ◌<◌}
use native.Mathlib.Nat.{add-zero}
use native.Mathlib.Numerals.{add-one}
use native.Mathlib.Omega.{arith}
use lib.Dec.{lit<}
use Rattle.numbers.specs.Number.{big_at}
use Rattle.numbers.proofs.Laws.{big_at-below, big_at-last, one-more-fits}
use Rattle.numbers.proofs.big_inside.Goals as goal

pub loop-read-init : goal.loop-read-init
unfolding big_at
loop-read-init c = refl

pub overflow_mul-number : goal.overflow_mul-number
overflow_mul-number c =
    let below : c.loop-read.number < 256 ^ c.loop-read.read =
    rw c.loop-read.invariant (big_at-below c.args.s.now (λ i. (c.type_inv.s i).fits) c.args.at c.loop-read.read) in
    simp add-zero at (one-more-fits {byte = 0} {w = c.loop-read.read} (omega arith) below (lit< tt))

pub overflow_add-number : goal.overflow_add-number
overflow_add-number c =
    let below : c.loop-read.number < 256 ^ c.loop-read.read =
    rw c.loop-read.invariant (big_at-below c.args.s.now (λ i. (c.type_inv.s i).fits) c.args.at c.loop-read.read) in
    one-more-fits {w = c.loop-read.read} (omega arith) below (rw c.from.ensures (c.type_inv.s _).fits)

pub loop-read-preserved : goal.loop-read-preserved
loop-read-preserved c = rw (c.loop-read.invariant, add-one, big_at-last, c.from.ensures)
