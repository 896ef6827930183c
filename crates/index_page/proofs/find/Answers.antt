-- `index_page::find`: the opening checks, then the page.
use mathlib.Core.Path.{sym}
use Rattle.std.proofs.lemmas.Result.{err_from_is_err_and}
use Rattle.refusal.proofs.Laws.{after-said, refusal-after, answered-after}
use Rattle.index_open.specs.Open.{opening}
use Rattle.index_open.proofs.Laws.{values_one}
use Rattle.index_page.proofs.Laws.{past_all, told}
use Rattle.index_page.proofs.find.Goals as goal

pub returns-in_err-l : goal.returns-in_err-l
returns-in_err-l c =
    let p = err_from_is_err_and c.from_residual.result c.from_residual.ensures.1 in
    rw (p.1, p.2) (sym (after-said _ (refusal-after (opening c.args.index.now) _ _ _ c.in_err-l.ensures)))

pub returns-then-l-page : goal.returns-then-l-page
returns-then-l-page c =
    let known = answered-after (opening c.args.index.now) _ _ c.in_ok-l.ensures in
    past_all _ _ _ known.0 (values_one _ _ known.1) c.if-l-page.true

pub returns : goal.returns
returns c =
    let known = answered-after (opening c.args.index.now) _ _ c.in_ok-l.ensures in
    told _ _ _ known.0 (values_one _ _ known.1) _ c.if-l-page.false c.places_of.ensures
