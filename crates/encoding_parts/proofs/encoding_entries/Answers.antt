-- `encoding_parts::encoding_entries`: two parts laid over the file.
use mathlib.Core.Path.{ap, ◌∙◌}
use Rattle.parts.specs.Part.{overlay}
use Rattle.encoding_parts.specs.File.{last_entry}
use Rattle.encoding_parts.proofs.encoding_entries.Goals as goal

pub returns : goal.returns
returns c = c.laid.ensures ∙ ap (λ f. overlay f 1106 last_entry) c.laid-first.ensures
