-- `encoding_header::Table::index_size`: an entry for each page.
use native.Mathlib.Omega.{arith}
use Rattle.encoding_header.proofs.Bounds.{Typed, rows-most}
use Rattle.encoding_header.proofs.Table.index_size.Goals as goal

pub overflow_mul-result : goal.overflow_mul-result
overflow_mul-result c =
    let t = c.args.self in
    let typed : Typed t = omega arith in
    omega (arith, rows-most typed t.pages _ (omega arith) c.row_size.ensures)
