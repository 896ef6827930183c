-- `encoding_header::Header::row_at`: the index entries before it.
use mathlib.Core.Path.{ap, ◌∙◌}
use native.Mathlib.Omega.{arith}
use Rattle.encoding_header.specs.Header.{row_size}
use Rattle.encoding_header.proofs.Bounds.{TypedHeader, rows-most, table-typed, index-at-most}
use Rattle.encoding_header.proofs.Header.row_at.Goals as goal

pub overflow_mul-result : goal.overflow_mul-result
overflow_mul-result c =
    let a = c.args in
    let typed : TypedHeader a.self = omega arith in
    let rows = rows-most (table-typed typed a.kind) a.page _ (omega arith) (c.row_size.ensures ∙ ap row_size c.table.ensures) in
    omega (arith, rows, index-at-most typed a.kind, c.index_at.ensures)

pub overflow_add-result : goal.overflow_add-result
overflow_add-result c =
    let a = c.args in
    let typed : TypedHeader a.self = omega arith in
    let rows = rows-most (table-typed typed a.kind) a.page _ (omega arith) (c.row_size.ensures ∙ ap row_size c.table.ensures) in
    omega (arith, rows, index-at-most typed a.kind, c.index_at.ensures)
