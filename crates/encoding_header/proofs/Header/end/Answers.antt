-- `encoding_header::Header::end`: behind the encoding pages.
use native.Mathlib.Omega.{arith}
use Rattle.encoding_header.specs.declared.Kind.TheVariants.{Encoding}
use Rattle.encoding_header.proofs.Bounds.{TypedHeader, index-at-most, size-most}
use Rattle.encoding_header.proofs.Header.end.Goals as goal

pub overflow_add-result : goal.overflow_add-result
overflow_add-result c =
    let h = c.args.self in
    let typed : TypedHeader h = omega arith in
    omega (arith, index-at-most typed Encoding, size-most typed.encoding-typed, c.size.ensures, c.index_at.ensures)
