-- `halving::halve_on` meets its contract: each turn makes a step of the halving rule.
use mathlib.Core.Path.{sym, ap, ◌∙◌}
use Prim.Native.Nat.{◌*◌}
use native.Mathlib.Omega.{arith}
use lib.ListN.{length}
use Rattle.parts.specs.Part.{part_at}
use Rattle.key.specs.Order.{compared, is_below}
use Rattle.halving.specs.Halving.{is_key_below}
use Rattle.halving.proofs.Ranges.{next-less, leads-on, leads-next, leads-end}
use Rattle.halving.proofs.halve_on.Goals as goal

pub loop-r-smaller : goal.loop-r-smaller
loop-r-smaller c = rw c.next-r.ensures (next-less _ _ (omega arith))

pub loop-r-preserved : goal.loop-r-preserved
unfolding is_key_below
loop-r-preserved c =
    let a = c.args in
    let below = c.rises-below.ensures
    ∙ ap (λ k. is_below (compared k a.key.now))
    (c.part.ensures.result_value ∙ ap (λ m. part_at a.keys.now (m * a.stride) (length a.key.now)) c.middle.ensures) in
    rw c.next-r.ensures (leads-on c.loop-r.invariant (leads-next _ _ (omega arith) (sym below)))

pub returns : goal.returns
returns c = sym (leads-end c.loop-r.invariant (omega arith))
