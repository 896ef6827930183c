-- `index_layout::Layout::placed_number`: those of the full pages before, and the slot.
use native.Mathlib.Omega.{arith}
use Rattle.index_layout.proofs.Laws.{bound}
use Rattle.index_layout.proofs.Layout.placed_number.Goals as goal

pub overflow_mul-result : goal.overflow_mul-result
overflow_mul-result c = omega (arith, bound c.args.page.0 c.full.result 4294967295 1024 (omega arith) (omega arith))

pub overflow_add-result : goal.overflow_add-result
overflow_add-result c = omega (arith, bound c.args.page.0 c.full.result 4294967295 1024 (omega arith) (omega arith))

pub returns : goal.returns
returns c = rw c.full.ensures.value
