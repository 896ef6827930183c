-- `index_layout::Layout::entry_at`: the page, then whole entries.
use native.Mathlib.Omega.{arith}
use Rattle.index_layout.proofs.Laws.{bound}
use Rattle.index_layout.specs.Layout.{entry_at}
use Rattle.index_layout.proofs.Layout.entry_at.Goals as goal

pub overflow_mul-result : goal.overflow_mul-result
overflow_mul-result c = omega (
  arith,
  bound c.args.slot.0 c.entry_size.result 4294967295 514 (omega arith) (omega arith),
  c.page_at.ensures,
)

pub overflow_add-result : goal.overflow_add-result
overflow_add-result c = omega (
  arith,
  bound c.args.slot.0 c.entry_size.result 4294967295 514 (omega arith) (omega arith),
  c.page_at.ensures,
)

pub returns : goal.returns
unfolding entry_at
returns c = rw (c.entry_size.ensures.value, c.page_at.ensures)
