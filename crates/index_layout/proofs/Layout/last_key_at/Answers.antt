-- `index_layout::Layout::last_key_at`: past the pages and the keys before.
use native.Mathlib.Omega.{arith}
use Rattle.index_layout.proofs.Laws.{bound}
use Rattle.index_layout.specs.Layout.{last_key_offset}
use Rattle.index_layout.proofs.Layout.last_key_at.Goals as goal

pub overflow_mul-result : goal.overflow_mul-result
overflow_mul-result c = omega (
  arith,
  bound c.args.page.0
      c.args.self.key_length 4294967295 255 (omega arith) (omega arith),
  c.page_at.ensures,
)

pub overflow_add-result : goal.overflow_add-result
overflow_add-result c = omega (
  arith,
  bound c.args.page.0
      c.args.self.key_length 4294967295 255 (omega arith) (omega arith),
  c.page_at.ensures,
)

pub returns : goal.returns
unfolding last_key_offset
returns c = rw c.page_at.ensures
