-- `dwarnizza::indexes::dwarnizza_index_page`: what `index_page::find` answers for the page of the number, laid out.
use mathlib.Core.Path.{ap, ◌∙◌}
use Rattle.index_page.specs.Page.{page_outcome}
use Rattle.index_page.proofs.Laws.{page-of-number}
use Rattle.crossing.proofs.Laws.{crosses-as}
use Rattle.dwarnizza.proofs.indexes.dwarnizza_index_page.Goals as goal

pub returns : goal.returns
returns c =
    let a = c.args in
    let same = ap (page_outcome a.index.now) c.page_of.ensures ∙ page-of-number a.index.now a.page in
    crosses-as (c.find.ensures ∙ same) c.tell_found.ensures
