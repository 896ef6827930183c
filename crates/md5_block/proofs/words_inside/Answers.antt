-- `md5_block::words_inside`: after i turns the first i words stand in the array.
use Rattle.std.proofs.Common.{◌<◌, length, refl, arith, length-set, rules}
use Rattle.md5_block.specs.Block.{words_of}
use Rattle.md5_block.proofs.BlockLaws.{word-stored, words-all}
use Rattle.md5_block.proofs.words_inside.Goals as goal

pub loop-i-init : goal.loop-i-init
unfolding words_of
loop-i-init c = (search rules, refl, refl)

pub loop-i-preserved : goal.loop-i-preserved
loop-i-preserved c =
    let i = c.loop-i.i in
    let inv = c.loop-i.invariant in
    let h : i < length c.loop-i.x = omega arith in
    (search rules, simp length-set (search rules), word-stored _ i _ _ h inv.2 c.word.ensures)

pub returns : goal.returns
returns c = words-all _ _ _ c.loop-i-test.false c.loop-i.invariant.0 c.loop-i.invariant.1 c.loop-i.invariant.2
