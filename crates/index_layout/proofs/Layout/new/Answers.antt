-- `index::layout::Layout::new`: the pages that the entries take.
use native.Mathlib.Omega.{arith}
use Rattle.index_layout.specs.Layout.{entry_size, full, pages_for}
use Rattle.index_layout.proofs.Laws.{pages-most}
use Rattle.index_layout.proofs.Layout.new.Goals as goal

pub overflow_cast-pages-2 : goal.overflow_cast-pages-2
overflow_cast-pages-2 c = omega (arith, pages-most c.args.entries c.full-full.result (omega arith))

pub returns : goal.returns
unfolding entry_size full pages_for
returns c = rw c.full-full.ensures.value
