-- `spec_table::pass_blocks`: a block with fewer zero bytes than are left is passed.
use native.Mathlib.Omega.{arith}
use Rattle.spec_table.proofs.Laws.{begins-block}
use Rattle.spec_table.proofs.pass_blocks.Goals as goal

pub loop-at-preserved : goal.loop-at-preserved
loop-at-preserved c =
    (begins-block c.loop-at.invariant.0 _ _ c.block_from-block.ensures.result_value c.zeros-found.ensures c.if-left-found.false, omega arith)
