-- `index_layout::Layout::on_page`: a file has its entries where they are placed.
use mathlib.Core.Path.{sym, ◌∙◌}
use Rattle.index_layout.proofs.Laws.{on-page-placed}
use Rattle.index_layout.proofs.Layout.on_page.Goals as goal

pub returns : goal.returns
returns c =
    let a = c.args in
    c.placed_on.ensures ∙ sym (on-page-placed a.self a.page.0)
