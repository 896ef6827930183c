-- `encoding_header::read_header`: two tables and the spec size.
use native.Mathlib.Omega.{arith}
use Rattle.numbers.proofs.Laws.{big_at-below}
use Rattle.encoding_header.specs.Header.{spec_size_at}
use Rattle.encoding_header.proofs.read_header.Goals as goal

pub overflow_cast-result : goal.overflow_cast-result
overflow_cast-result c =
    let s = c.args.file.now in
    record { fits = omega (arith, c.big.ensures, big_at-below s (λ i. (c.type_inv.file i).fits) spec_size_at 4) }
