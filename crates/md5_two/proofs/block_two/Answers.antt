-- `md5_two::block_two`: sixteen groups of four steps of each message, and the sums.
use Rattle.md5_two.proofs.TwoLaws.{block-two-is}
use Rattle.md5_two.proofs.block_two.Goals as goal

pub returns : goal.returns
returns c =
    let a = c.args in
    block-two-is a.k.now a.x.now a.y.now a.w
    c.four_two-e.ensures c.four_two-e-2.ensures c.four_two-e-3.ensures c.four_two-e-4.ensures
    c.four_two-e-5.ensures c.four_two-e-6.ensures c.four_two-e-7.ensures c.four_two-e-8.ensures
    c.four_two-e-9.ensures c.four_two-e-10.ensures c.four_two-e-11.ensures c.four_two-e-12.ensures
    c.four_two-e-13.ensures c.four_two-e-14.ensures c.four_two-e-15.ensures c.four_two-e-16.ensures
    c.sum.ensures c.sum-2.ensures
