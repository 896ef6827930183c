-- `spec_table::count`: block after block.
use borrow.Author.Rules.{rules}
use Rattle.spec_table.proofs.Laws.{counted-block, counted-all}
use Rattle.spec_table.proofs.count.Goals as goal

pub loop-at-preserved : goal.loop-at-preserved
loop-at-preserved c = counted-block c.loop-at.invariant _ _ c.block_from-block.ensures.result_value c.zeros.ensures

pub returns : goal.returns
returns c = counted-all c.loop-at.invariant (search rules)
