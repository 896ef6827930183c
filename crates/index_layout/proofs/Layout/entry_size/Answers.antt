-- `index_layout::Layout::entry_size`: key, size and location.
use mathlib.Core.Path.{refl}
use native.Mathlib.Omega.{arith}
use Rattle.index_layout.specs.Layout.{entry_size}
use Rattle.index_layout.proofs.Layout.entry_size.Goals as goal

pub returns : goal.returns
unfolding entry_size
returns c = record { value = refl; lower_bound = omega arith }
