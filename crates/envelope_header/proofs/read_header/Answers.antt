-- `envelope_header::read_header`: a chunk count has three bytes.
use native.Mathlib.Omega.{arith}
use Rattle.envelope_header.proofs.Laws.{count_fits}
use Rattle.envelope_header.proofs.read_header.Goals as goal

pub overflow_cast-result : goal.overflow_cast-result
overflow_cast-result c = record { fits = omega (arith, count_fits _ _ (λ i. (c.type_inv.file i).fits) c.big-2.ensures) }
