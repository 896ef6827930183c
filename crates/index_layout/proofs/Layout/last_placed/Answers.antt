-- `index_layout::Layout::last_placed`: one less than the entries that are placed on the page.
use native.Mathlib.Omega.{arith}
use Rattle.index_layout.proofs.Laws.{placed-most}
use Rattle.index_layout.proofs.Layout.last_placed.Goals as goal

pub overflow_cast-placed_on : goal.overflow_cast-placed_on
overflow_cast-placed_on c = omega (arith, placed-most c.args.self c.args.page.0)
