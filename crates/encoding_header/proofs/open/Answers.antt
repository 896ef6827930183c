-- `encoding_header::open`: a header stands before the spec table.
use native.Mathlib.Omega.{arith}
use Rattle.encoding_header.specs.Header.{index_at}
use Rattle.encoding_header.proofs.open.Goals as goal

pub overflow_sub-index_at : goal.overflow_sub-index_at
unfolding index_at
overflow_sub-index_at c = omega (arith, c.index_at.ensures)
