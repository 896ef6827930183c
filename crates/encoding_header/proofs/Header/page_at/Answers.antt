-- `encoding_header::Header::page_at`: the index, then the pages before it.
use mathlib.Core.Path.{ap, ◌∙◌}
use native.Mathlib.Omega.{arith}
use Rattle.encoding_header.specs.Header.{page_size, index_size}
use Rattle.encoding_header.proofs.Bounds.{TypedHeader, bytes_most, index-most, table-typed, index-at-most}
use Rattle.encoding_header.proofs.Header.page_at.Goals as goal

pub overflow_add-result : goal.overflow_add-result
overflow_add-result c =
    let a = c.args in
    let typed : TypedHeader a.self = omega arith in
    let size = c.index_size.ensures ∙ ap index_size c.table-table.ensures in
    omega (arith, index-most (table-typed typed a.kind), index-at-most typed a.kind, size, c.index_at.ensures)

pub overflow_mul-result : goal.overflow_mul-result
overflow_mul-result c =
    let a = c.args in
    let typed : TypedHeader a.self = omega arith in
    omega (arith, bytes_most (table-typed typed a.kind) a.page _ (omega arith) (c.page_size.ensures ∙ ap page_size c.table-table.ensures))

pub overflow_add-result-2 : goal.overflow_add-result-2
overflow_add-result-2 c =
    let a = c.args in
    let typed : TypedHeader a.self = omega arith in
    let table = table-typed typed a.kind in
    let bytes = bytes_most table a.page _ (omega arith) (c.page_size.ensures ∙ ap page_size c.table-table.ensures) in
    omega (arith, bytes, index-most table, index-at-most typed a.kind, c.index_size.ensures ∙ ap index_size c.table-table.ensures, c.index_at.ensures)
