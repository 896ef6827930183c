-- `index_lookup::bound` meets its contract.
use mathlib.Core.Path.{sym}
use Rattle.std.proofs.lemmas.Result.{err_from_is_err_and}
use Rattle.refusal.proofs.Laws.{after-said, refusal-after, answered-after}
use Rattle.index_open.specs.Open.{opening}
use Rattle.index_open.proofs.Laws.{values_one}
use Rattle.index_lookup.specs.Lookup.{bound_of}
use Rattle.index_lookup.proofs.Laws.{bounded-by}
use Rattle.index_lookup.proofs.bound.Goals as goal

pub returns-in_err-l : goal.returns-in_err-l
unfolding bound_of
returns-in_err-l c =
    let p = err_from_is_err_and c.from_residual.result c.from_residual.ensures.1 in
    rw (p.1, p.2) (sym (after-said _ (refusal-after (opening c.args.index.now) _ _ _ c.in_err-l.ensures)))

pub returns : goal.returns
returns c =
    let s = c.args.index.now in
    let opened = answered-after (opening s) _ _ c.in_ok-l.ensures in
    bounded-by s _ _ _ _ opened.0 (values_one _ _ opened.1) c.binary_digits.ensures.value c.full.ensures.value c.binary_digits-2.ensures.value
