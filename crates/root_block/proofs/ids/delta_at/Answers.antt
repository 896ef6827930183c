-- `root_block::ids::delta_at`: the four bytes at the place, or those that are left.
use mathlib.Core.Path.{refl, ◌∙◌}
use mir.Syntax.{w32}
use mir.Facts.{to_z-of_z}
use Prim.Native.Nat.{◌*◌}
use Rattle.root_block.specs.Ids.{delta_at}
use Rattle.root_block.proofs.Reckoned.{delta-is}
use Rattle.root_block.proofs.ids.delta_at.Goals as goal

pub returns-then-deltas-at : goal.returns-then-deltas-at
unfolding delta_at
returns-then-deltas-at c = to_z-of_z {w = w32} (record { sfits = c.past_end.type_inv }) ∙ c.past_end.ensures

pub returns : goal.returns
returns c =
    to_z-of_z {w = w32} (record { sfits = c.delta.type_inv })
    ∙ delta-is c.args.deltas.now c.args.i (4 * c.args.i) c.delta.result refl c.delta.ensures
