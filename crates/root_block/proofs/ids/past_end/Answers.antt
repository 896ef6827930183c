-- `root_block::ids::past_end`: two's complement of the number that is there.
use mathlib.Core.Path.{ap, ◌∙◌}
use mir.Syntax.{w32}
use mir.Facts.{to_z-of_z}
use Rattle.root_block.specs.Ids.{signed}
use Rattle.root_block.proofs.Signed.{signed-is}
use Rattle.root_block.proofs.ids.past_end.Goals as goal

pub returns : goal.returns
returns c =
    to_z-of_z {w = w32} (record { sfits = c.cast_signed.type_inv })
    ∙ c.cast_signed.ensures ∙ signed-is c.word.result c.word.type_inv ∙ ap signed c.word.ensures
