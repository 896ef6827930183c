-- `halving::halve` meets its contract: the halving by whole keys goes on where the one by eight bytes ended.
use mathlib.Core.Path.{sym, ap, ◌∙◌}
use native.Mathlib.Omega.{arith}
use Rattle.halving.specs.Halving.{halve, is_key_below}
use Rattle.halving.proofs.Laws.{halve-most}
use Rattle.halving.proofs.halve.Goals as goal

pub returns : goal.returns
unfolding halve
returns c =
    let a = c.args in
    let same = c.halve_on.ensures ∙ sym c.halve_eights.ensures.same in
    record { value = same; count_bound = omega (arith, ap (λ h. h.count) same, halve-most (is_key_below a.keys.now a.stride a.key.now) a.count (omega arith)) }
