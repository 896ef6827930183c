-- `halving::halve_eights` meets its contract: each turn makes three steps of the halving rule.
use native.Mathlib.Omega.{arith}
use Rattle.halving.proofs.Ranges.{leads-on, told-within, key-told}
use Rattle.halving.proofs.halve_eights.Goals as goal

pub loop-r-preserved : goal.loop-r-preserved
loop-r-preserved c =
    let a = c.args in
    let told = key-told a.keys.now a.key.now a.stride a.count (λ i. (c.type_inv.keys i).fits) (λ i. (c.type_inv.key i).fits)
    c.if-key-lt8.false c.if-step-lt8.false c.if-keys-count.false in
    leads-on c.loop-r.invariant (c.three_steps-to.ensures.leads _ (rw c.eight-sought.ensures (told-within (omega (arith, c.loop-r.invariant.places)) told)))
