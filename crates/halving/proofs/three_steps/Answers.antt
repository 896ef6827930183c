-- `halving::three_steps` meets its contract: what was read beforehand is what each step asks for.
use mathlib.Core.Path.{ap, ◌∙◌}
use native.Mathlib.Omega.{arith}
use Rattle.halving.specs.Range.{fronts_of}
use Rattle.halving.proofs.Ranges.{three_made}
use Rattle.halving.proofs.three_steps.Goals as goal

pub returns : goal.returns
returns c =
    let a = c.args in
    let whole = three_made a.keys.now a.stride a.sought a.r c.next-one.result c.next-3.result c.next-4.result
    c.read_fronts-before.result c.read_fronts-after.result c.pick_fronts-then.result c.front-x.result c.pick-z.result
    c.requires c.front-x.ensures
    (c.read_fronts-before.ensures ∙ ap (fronts_of a.keys.now a.stride) c.next.ensures)
    (c.read_fronts-after.ensures ∙ ap (fronts_of a.keys.now a.stride) c.next-2.ensures)
    c.next-one.ensures c.pick_fronts-then.ensures c.pick-z.ensures c.next-3.ensures c.next-4.ensures
    c.if-x-sought.false c.if-y-sought.false (omega arith) in record { leads = whole.0; less = whole.1 }
