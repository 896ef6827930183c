-- `md5_block::addends`: the table of the code is that of the definition.
use Rattle.std.proofs.Common.{refl}
use Rattle.md5_block.specs.Block.{addends}
use Rattle.md5_block.proofs.addends.Goals as goal

pub returns : goal.returns
unfolding addends
returns c = refl
