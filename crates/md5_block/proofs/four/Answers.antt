-- `md5_block::four`: four steps, one after the other, each with its shift amount.
use Rattle.std.proofs.Common.{◌*◌, ◌%◌, get_or, ap, arith}
use Rattle.md5_block.specs.Block.{shifts}
use Rattle.md5_block.proofs.BlockLaws.{four_is, row-start, row_of}
use Rattle.md5_block.proofs.four.Goals as goal

pub step-w-requires : goal.step-w-requires
unfolding shifts
step-w-requires c = (omega arith, ap (λ j. get_or shifts j 0) (row-start c.args.g))

pub step-w-requires-2 : goal.step-w-requires-2
unfolding shifts
step-w-requires-2 c = (omega arith, ap (λ j. get_or shifts j 0) (row_of c.args.g 1 (omega arith)))

pub step-w-requires-3 : goal.step-w-requires-3
unfolding shifts
step-w-requires-3 c = (omega arith, ap (λ j. get_or shifts j 0) (row_of c.args.g 2 (omega arith)))

pub step-requires : goal.step-requires
unfolding shifts
step-requires c = (omega arith, ap (λ j. get_or shifts j 0) (row_of c.args.g 3 (omega arith)))

pub returns : goal.returns
returns c =
    let a = c.args in
    four_is a.k.now a.x.now (a.g % 16 * 4) a.w c.step-w.ensures c.step-w-2.ensures c.step-w-3.ensures c.step.ensures
