-- `md5_block::mix` is `mixed`: a case for each round.
use Rattle.std.proofs.Common.{rules}
use Rattle.md5_block.specs.Block.{mixed}
use Rattle.md5_block.proofs.Choice.{choice}
use Rattle.md5_block.proofs.mix.Goals as goal

pub returns-in-0 : goal.returns-in-0
unfolding mixed
returns-in-0 c =
    let a = c.args in
    rw c.in-0.is (choice 32 a.b a.c a.d (search rules) (search rules) (search rules))
