-- `index_layout::Layout::entry_number`: a file has its entries where they are placed.
use mathlib.Core.Path.{sym, ◌∙◌}
use Rattle.index_layout.proofs.Laws.{entry-number-placed}
use Rattle.index_layout.proofs.Layout.entry_number.Goals as goal

pub returns : goal.returns
returns c =
    let a = c.args in
    c.placed_number.ensures ∙ sym (entry-number-placed a.self a.page.0 a.slot.0)
