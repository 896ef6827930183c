-- `index_layout::Layout::page_hash_at`: past the pages, the last keys and the hashes before.
use native.Mathlib.Omega.{arith}
use Rattle.index_layout.proofs.Laws.{bound}
use Rattle.index_layout.specs.Layout.{last_key_offset, page_hash_at}
use Rattle.index_layout.proofs.Layout.page_hash_at.Goals as goal

pub overflow_add-result : goal.overflow_add-result
unfolding last_key_offset
overflow_add-result c = omega (
  arith,
  bound c.args.self.pages c.args.self.key_length 4294967295 255
      (omega arith) (omega arith),
  c.last_key_at.ensures,
)

pub returns : goal.returns
unfolding page_hash_at
returns c = rw c.last_key_at.ensures
