-- `md5_suite::fill`: the bytes so far are those of the data.
use mathlib.Core.Path.{◌≡◌, refl, sym, ap, ◌∙◌}
use Prim.Native.Nat.{◌≤◌, ◌<◌}
use native.Mathlib.Omega.{arith}
use lib.ListN.{length}
use lib.Seq.{take_all}
use Rattle.md5_suite.specs.Suite.{data_of}
use Rattle.md5_suite.proofs.Laws.{data-more}
use Rattle.md5_suite.proofs.fill.Goals as goal

pub loop-i-init : goal.loop-i-init
unfolding data_of
loop-i-init c = refl

pub loop-i-preserved : goal.loop-i-preserved
loop-i-preserved c =
    let l = c.loop-i in
    let inside : l.i < length l.to = omega arith in
    data-more l.to l.i _ inside l.invariant c.data_byte.ensures

pub returns : goal.returns
returns c =
    let l = c.loop-i in
    let all : length l.to ≤ l.i = omega arith in
    let n : l.i ≡ length c.args.to.now = omega arith in
    sym (take_all l.i l.to all) ∙ l.invariant ∙ ap data_of n
