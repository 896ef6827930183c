-- `md5_block::step` is `step`: each call's answer is put in its place.
use Rattle.std.proofs.Common.{◌+◌, ◌*◌, ◌/◌, ◌%◌, arith}
use Rattle.md5_block.specs.Block.{turned, step}
use Rattle.md5_block.proofs.BlockLaws.{shift-range, rotated-is}
use Rattle.md5_block.proofs.step.Goals as goal

pub returns : goal.returns
unfolding turned step
returns c =
    let range = shift-range (c.args.i / 16 * 4 + c.args.i % 4) (omega arith) in
    rw (c.rotate_left.ensures, c.mix.ensures, c.word_number.ensures.value, c.requires.1, rotated-is _ _ range)
