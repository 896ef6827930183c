-- `index_layout::Layout::size_at`: the four bytes after the key.
use native.Mathlib.Omega.{arith}
use Rattle.index_layout.specs.Entries.{size_at}
use Rattle.index_layout.proofs.Laws.{entry-fits, size_fits}
use borrow.Author.Rules.{rules}
use Rattle.index_layout.proofs.Layout.size_at.Goals as goal

pub overflow_add-at : goal.overflow_add-at
overflow_add-at c =
    let a = c.args in
    omega (arith, entry-fits a.self a.page.0 a.slot.0 _ c.entry_at.ensures (search rules) (search rules) (search rules) (search rules))

pub overflow_cast-result : goal.overflow_cast-result
overflow_cast-result c =
    record { fits = size_fits _ _ _ (λ i. (c.shared_slice_known-1.given i).fits) c.big.ensures }

pub returns : goal.returns
unfolding size_at
returns c = rw c.entry_at.ensures at c.big.ensures
