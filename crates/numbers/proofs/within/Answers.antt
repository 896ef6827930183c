-- `numbers::within`: a range of both bounds.
use Rattle.std.proofs.Common.{rules, ◌↔◌, ◌≤◌, IsTrue}
use Rattle.numbers.proofs.Laws.{within-told}
use Rattle.numbers.proofs.within.Goals as goal

pub returns : goal.returns
returns c =
    let a = c.args in
    let told : IsTrue c.contains.result ↔ ((a.low ≤ a.x) × (a.x ≤ a.high)) = search rules in
    within-told a.low a.high a.x c.contains.result told
