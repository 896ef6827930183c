-- `encoding_calls::spec`: what the lookup tells is what the plain reading of the table tells.
use mathlib.Core.Path.{◌∙◌}
use Rattle.encoding_calls.proofs.Laws.{spec-opened}
use Rattle.encoding_calls.proofs.spec.Goals as goal

pub returns : goal.returns
returns c = c.find_spec.ensures ∙ spec-opened _ _
