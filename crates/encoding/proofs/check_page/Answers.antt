-- `encoding::check_page`: what the entries tell is what the checks ask.
use mathlib.Core.Path.{◌∙◌}
use Rattle.std.proofs.lemmas.Result.{err_from_is_err_and}
use Rattle.encoding.proofs.Laws.{page-judged, key-after}
use Rattle.encoding.proofs.check_page.Goals as goal

pub returns-in_err-judge-clause-check : goal.returns-in_err-judge-clause-check
returns-in_err-judge-clause-check c =
    let r = c.requires in
    let w = c.walk-w in
    let p = err_from_is_err_and c.from_residual.result c.from_residual.ensures.1 in
    rw (p.1, p.2)
    (c.in_err-judge.ensures
    ∙ page-judged _ _ _ _ _ _ c.page_end-end.ensures c.page_at.ensures w.result _ _ _ w.ensures.ends w.ensures.order w.ensures.numbers r.0 r.1 r.2)

pub returns : goal.returns
returns c =
    let r = c.requires in
    let w = c.walk-w in record {
      check = c.in_ok-judge.ensures
          ∙ page-judged _ _ _ _ _ _ c.page_end-end.ensures c.page_at.ensures w.result _ _ _ w.ensures.ends w.ensures.order w.ensures.numbers r.0 r.1 r.2;
      last = key-after _ _ _ _ _ _ c.page_end-end.ensures c.page_at.ensures w.result _ w.ensures.last r.1;
    }
