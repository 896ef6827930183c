-- `encoding_header::Header::index_at`: behind the spec table, or behind the content pages.
use native.Mathlib.Omega.{arith}
use Rattle.encoding_header.proofs.Bounds.{Typed, size-most}
use Rattle.encoding_header.proofs.Header.index_at.Goals as goal

pub overflow_add-result : goal.overflow_add-result
overflow_add-result c =
    let typed : Typed c.args.self.content = omega arith in
    omega (arith, size-most typed, c.size.ensures)
