-- `index_lookup::seek` meets its contract: no page, or that page's entries.
use mathlib.Core.Path.{◌∙◌}
use Rattle.index_lookup.proofs.Laws.{no-page, on-page}
use Rattle.index_lookup.proofs.seek.Goals as goal

pub returns-then-l-page : goal.returns-then-l-page
returns-then-l-page c =
    let a = c.args in
    c.absent.ensures ∙ no-page _ _ a.l _ c.find_page-end.ensures.result_value c.if-l-page.true

pub returns : goal.returns
returns c =
    let a = c.args in
    on-page _ _ a.l _ c.find_page-end.ensures.result_value _ c.if-l-page.false c.seek_on.ensures
