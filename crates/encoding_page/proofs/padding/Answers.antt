-- `encoding_page::padding`: a key of zeros.
use mathlib.Core.Path.{ap, ◌∙◌}
use native.Mathlib.Omega.{arith}
use Rattle.parts.specs.Part.{part_at, all_zero}
use Rattle.encoding_page.proofs.Laws.{padding-zero}
use Rattle.encoding_page.proofs.padding.Goals as goal

pub returns : goal.returns
returns c =
    padding-zero _ _ _ _ _ c.in_default.is c.spec_number-number.ensures c.if-number-eq-NO_SPEC.false (omega arith) _
    (c.all_zero.ensures ∙ ap all_zero (c.part.ensures.result_value ∙ ap (part_at c.args.file.now c.args.at) c.from.ensures))
