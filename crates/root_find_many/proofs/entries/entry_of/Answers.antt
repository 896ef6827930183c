-- `root_find_many::entries::entry_of`: 1 and zeros, with the key laid over them.
use mathlib.Core.Path.{ap, ◌∙◌}
use mathlib.Core.List.{◌∷◌}
use lib.ListN.{replicate}
use Rattle.parts.specs.Part.{overlay}
use Rattle.root_find_many.proofs.Laid.{entry-laid}
use Rattle.root_find_many.proofs.entries.entry_of.Goals as goal

pub returns : goal.returns
returns c =
    c.copy.ensures
    ∙ ap (overlay (1 ∷ 0 ∷ 0 ∷ 0 ∷ replicate 16 0) 4) c.part.ensures.result_value
    ∙ entry-laid c.args.file.now c.args.at c.requires
