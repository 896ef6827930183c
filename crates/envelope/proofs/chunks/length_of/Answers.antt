-- `envelope::chunks::length_of`: the file less its header and a byte for each chunk.
use native.Mathlib.Omega.{arith}
use Rattle.envelope.proofs.Laws.{content-whole}
use Rattle.envelope.proofs.chunks.length_of.Goals as goal

pub overflow_sub-result : goal.overflow_sub-result
overflow_sub-result c = omega (arith, content-whole _ _ c.requires, c.length.ensures)

pub overflow_sub-result-2 : goal.overflow_sub-result-2
overflow_sub-result-2 c = omega (arith, content-whole _ _ c.requires, c.length.ensures, c.chunks.ensures)

pub returns : goal.returns
returns c = omega (arith, content-whole _ _ c.requires, c.length.ensures, c.chunks.ensures)
