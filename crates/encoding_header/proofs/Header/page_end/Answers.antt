-- `encoding_header::Header::page_end` meets its contract.
use mathlib.Core.Path.{ap, ◌∙◌}
use native.Mathlib.Omega.{arith}
use Rattle.encoding_header.specs.Header.{page_size}
use Rattle.encoding_header.proofs.Bounds.{TypedHeader, page-at-most, page-most}
use Rattle.encoding_header.proofs.Header.page_end.Goals as goal

pub overflow_add-result : goal.overflow_add-result
overflow_add-result c =
    let a = c.args in
    let typed : TypedHeader a.self = omega arith in
    let at = page-at-most typed a.kind a.page (omega arith) in
    let size = c.page_size.ensures ∙ ap page_size c.table.ensures in
    omega (arith, at, page-most typed a.kind, c.page_at.ensures, size)
