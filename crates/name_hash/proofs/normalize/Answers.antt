-- `name_hash::normalize`: after i turns the first i bytes stand in front.
use Rattle.std.proofs.Common.{◌∙◌, arith, rules}
use lib.Seq.{paste-zero}
use Rattle.name_hash.specs.NameHash.{normalized}
use Rattle.name_hash.proofs.Laws.{normal-next, normal-all}
use Rattle.name_hash.proofs.normalize.Goals as goal

pub loop-i-init : goal.loop-i-init
loop-i-init c = paste-zero c.args.room.now 0 (normalized c.args.path.now)

pub loop-i-preserved : goal.loop-i-preserved
loop-i-preserved c =
    let a = c.args in
    rw c.loop-i.invariant (normal-next a.path.now a.room.now c.loop-i.i (search rules) (search rules) c.normal.ensures)

pub returns : goal.returns
returns c =
    let a = c.args in
    c.loop-i.invariant ∙ normal-all a.path.now a.room.now c.loop-i.i (omega arith) (omega arith) (search rules)
