-- `root_find_many::entries::clear`: one entry of zeros more at each turn.
use mathlib.Core.Path.{◌≡◌, ap, ◌∙◌}
use native.Mathlib.Omega.{arith}
use lib.ListN.{length}
use Rattle.parts.specs.Part.{overlay, parts_from}
use Rattle.parts.proofs.Laws.{overlay-length}
use Rattle.root_find_many.proofs.Laid.{blank, zeros-none, zeros-next, zeros-all}
use Rattle.root_find_many.proofs.entries.clear.Goals as goal

pub loop-i-init : goal.loop-i-init
loop-i-init c = zeros-none _

pub loop-i-preserved : goal.loop-i-preserved
loop-i-preserved c =
    let l = c.loop-i in
    c.copy.ensures ∙ zeros-next _ l.i _ l.invariant

pub shape_of-output : goal.shape_of-output
shape_of-output c = ap length c.loop-i.invariant ∙ overlay-length _ 0 _

pub returns : goal.returns
returns c =
    let l = c.loop-i in
    let all : l.i ≡ c.args.count = omega arith in
    let out = c.args.output.now in
    zeros-all out _ _ c.requires (l.invariant ∙ ap (λ n. overlay out 0 (parts_from blank 0 n)) all)
