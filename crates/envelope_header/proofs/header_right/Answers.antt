-- `envelope_header::header_right`: a chunk count has three bytes.
use native.Mathlib.Omega.{arith}
use Rattle.envelope_header.proofs.Laws.{count_fits}
use Rattle.envelope_header.proofs.header_right.Goals as goal

pub overflow_mul-count : goal.overflow_mul-count
overflow_mul-count c = omega (arith, count_fits _ _ (λ i. (c.type_inv.file i).fits) c.big-count.ensures)

pub overflow_add-count : goal.overflow_add-count
overflow_add-count c = omega (arith, count_fits _ _ (λ i. (c.type_inv.file i).fits) c.big-count.ensures)
