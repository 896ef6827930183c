-- `index::check`: the opening checks, then the pages.
use mathlib.Core.Path.{sym, ap, ◌∙◌}
use Rattle.std.proofs.lemmas.Result.{err_from_is_err_and}
use Rattle.refusal.proofs.Laws.{skip, after-said, after-quiet, answered-after, refusal_first}
use Rattle.index_layout.specs.Layout.{layout_of}
use Rattle.index_open.specs.Open.{opening}
use Rattle.index_open.proofs.Laws.{values_one}
use Rattle.index.specs.Check.{pages_check, full_check}
use Rattle.index.proofs.check.Goals as goal

pub returns-in_err-layout : goal.returns-in_err-layout
unfolding full_check
returns-in_err-layout c =
    let s = c.args.index.now in
    let p = err_from_is_err_and c.from_residual.result c.from_residual.ensures.1 in
    rw (p.1, p.2) (refusal_first (opening s) (pages_check s (layout_of s)) _ _ c.in_err-layout.ensures)

pub returns-in_err-check_pages : goal.returns-in_err-check_pages
unfolding full_check
returns-in_err-check_pages c =
    let s = c.args.index.now in
    let p = err_from_is_err_and c.from_residual-in_err-check_pages.result c.from_residual-in_err-check_pages.ensures.1 in
    let i = answered-after (opening s) _ _ c.in_ok-layout.ensures in
    let l = values_one c.in_ok-layout.layout (layout_of s) i.1 in
    rw (p.1, p.2) (sym (after-said _ (skip i.0 (sym (c.in_err-check_pages.ensures ∙ ap (pages_check s) l)))))

pub returns : goal.returns
unfolding full_check
returns c =
    let s = c.args.index.now in
    let i = answered-after (opening s) _ _ c.in_ok-layout.ensures in
    let l = values_one c.in_ok-layout.layout (layout_of s) i.1 in
    rw i.1 (sym (after-quiet _ (skip i.0 (sym (c.in_ok-check_pages.ensures ∙ ap (pages_check s) l)))))
