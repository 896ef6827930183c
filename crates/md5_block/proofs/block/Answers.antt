-- `md5_block::block`: sixteen groups of four steps, and the sum.
use Rattle.md5_block.proofs.BlockLaws.{all-steps, block-is}
use Rattle.md5_block.proofs.block.Goals as goal

pub returns : goal.returns
returns c =
    let a = c.args in
    block-is a.k.now a.x.now a.w
    (all-steps a.k.now a.x.now a.w
    c.four-e.ensures c.four-e-2.ensures c.four-e-3.ensures c.four-e-4.ensures
    c.four-e-5.ensures c.four-e-6.ensures c.four-e-7.ensures c.four-e-8.ensures
    c.four-e-9.ensures c.four-e-10.ensures c.four-e-11.ensures c.four-e-12.ensures
    c.four-e-13.ensures c.four-e-14.ensures c.four-e-15.ensures c.four-e-16.ensures)
    c.sum.ensures
