-- `encoding_header::read_table`: three fields.
use native.Mathlib.Omega.{arith}
use Rattle.numbers.proofs.Laws.{big_at-below}
use Rattle.encoding_header.proofs.read_table.Goals as goal

pub overflow_cast-result : goal.overflow_cast-result
overflow_cast-result c =
    let a = c.args in
    record { fits = omega (arith, c.big.ensures, big_at-below a.file.now (λ i. (c.type_inv.file i).fits) a.page_kb_at 2) }

pub overflow_cast-result-2 : goal.overflow_cast-result-2
overflow_cast-result-2 c =
    let a = c.args in
    record { fits = omega (arith, c.big-2.ensures, big_at-below a.file.now (λ i. (c.type_inv.file i).fits) a.pages_at 4) }
