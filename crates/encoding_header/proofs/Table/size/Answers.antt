-- `encoding_header::Table::size`: index and pages.
use native.Mathlib.Omega.{arith}
use Rattle.encoding_header.proofs.Bounds.{Typed, index-most, bytes_most}
use Rattle.encoding_header.proofs.Table.size.Goals as goal

pub overflow_mul-result : goal.overflow_mul-result
overflow_mul-result c =
    let t = c.args.self in
    let typed : Typed t = omega arith in
    omega (arith, index-most typed, bytes_most typed t.pages _ (omega arith) c.page_size.ensures, c.index_size.ensures)

pub overflow_add-result : goal.overflow_add-result
overflow_add-result c =
    let t = c.args.self in
    let typed : Typed t = omega arith in
    omega (arith, index-most typed, bytes_most typed t.pages _ (omega arith) c.page_size.ensures, c.index_size.ensures)
