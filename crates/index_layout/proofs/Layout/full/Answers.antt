-- `index::layout::Layout::full`: the entries that 4,096 bytes hold.
use Rattle.index_layout.specs.Layout.{full}
use Rattle.index_layout.proofs.Laws.{per-page}
use Rattle.index_layout.proofs.Layout.full.Goals as goal

pub returns : goal.returns
unfolding full
returns c = record { value = rw c.entry_size.ensures.value; lower_bound = per-page _ c.entry_size.ensures.lower_bound.0 c.entry_size.ensures.lower_bound.1 }
