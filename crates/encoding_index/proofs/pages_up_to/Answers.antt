-- `encoding_index::pages_up_to`: the pages passed are above.
use mathlib.Core.Path.{sym, ap, ◌∙◌}
use native.Mathlib.Omega.{arith}
use Rattle.encoding_index.specs.Chosen.{up_to, pages_up_to}
use Rattle.encoding_index.proofs.Laws.{up-to-none, up-to-here, up-to-above, told, none_left}
use Rattle.encoding_index.proofs.pages_up_to.Goals as goal

pub loop-n-init : goal.loop-n-init
unfolding pages_up_to
loop-n-init c = rw c.table-n.ensures

pub returns-then-n-eq0 : goal.returns-then-n-eq0
returns-then-n-eq0 c = sym (c.loop-n.invariant ∙ c.skip-n.ensures.same ∙ ap (up_to _) c.if-n-eq0.true ∙ up-to-none _)

pub returns-then-not-rises : goal.returns-then-not-rises
returns-then-not-rises c =
    let here = told _ c.first_key.ensures c.rises.ensures c.if-not-rises.true in
    sym (c.loop-n.invariant ∙ c.skip-n.ensures.same ∙ up-to-here _ _ (omega (arith, c.if-n-eq0.false)) here)

pub loop-n-preserved : goal.loop-n-preserved
loop-n-preserved c =
    let above = told _ c.first_key.ensures c.rises.ensures c.if-not-rises.false in
    c.loop-n.invariant ∙ c.skip-n.ensures.same ∙ up-to-above _ _ (omega (arith, c.if-n-eq0.false)) above

pub returns : goal.returns
returns c = sym (c.loop-n.invariant ∙ ap (up_to _) (none_left c.loop-n-test.false) ∙ up-to-none _)
