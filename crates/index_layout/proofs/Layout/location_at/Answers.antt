-- `index_layout::Layout::location_at`: the bytes after the size.
use native.Mathlib.Omega.{arith}
use Rattle.index_layout.specs.Entries.{location_read}
use Rattle.index_layout.proofs.Laws.{entry-fits}
use borrow.Author.Rules.{rules}
use Rattle.index_layout.proofs.Layout.location_at.Goals as goal

pub overflow_add-at : goal.overflow_add-at
overflow_add-at c =
    let a = c.args in
    omega (arith, entry-fits a.self a.page.0 a.slot.0 _ c.entry_at.ensures (search rules) (search rules) (search rules) (search rules))

pub overflow_add-at-2 : goal.overflow_add-at-2
overflow_add-at-2 c =
    let a = c.args in
    omega (arith, entry-fits a.self a.page.0 a.slot.0 _ c.entry_at.ensures (search rules) (search rules) (search rules) (search rules))

pub returns : goal.returns
unfolding location_read
returns c = rw c.entry_at.ensures at c.big.ensures
