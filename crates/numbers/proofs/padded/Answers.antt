-- `numbers::padded` meets its contract: zeros with the part laid over them read as the part.
use mathlib.Core.Path.{◌∙◌}
use Rattle.parts.specs.Part.{part_at}
use Rattle.parts.proofs.Laws.{overlay-zeros, part_at-byte}
use Rattle.numbers.proofs.padded.Goals as goal

pub returns : goal.returns
returns c i l =
    let a = c.args in
    rw (c.copy.ensures, c.part.ensures.result_value)
    (overlay-zeros 8 (part_at a.s.now a.at 8) i l ∙ part_at-byte a.s.now a.at 8 i l)
