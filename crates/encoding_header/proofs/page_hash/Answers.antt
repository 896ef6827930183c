-- `encoding_header::page_hash`: behind the first key.
use native.Mathlib.Omega.{arith}
use Rattle.encoding_header.proofs.Bounds.{TypedHeader, row-at-most}
use Rattle.encoding_header.proofs.page_hash.Goals as goal

pub overflow_add-row_at : goal.overflow_add-row_at
overflow_add-row_at c =
    let a = c.args in
    let typed : TypedHeader a.h = omega arith in
    omega (arith, row-at-most typed a.kind a.page (omega arith), c.row_at.ensures)
