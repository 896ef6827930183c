-- `spec_table::start`: byte by byte in the block where the string begins.
use native.Mathlib.Omega.{arith}
use borrow.Author.Rules.{rules}
use Rattle.spec_table.proofs.Laws.{begins-zero, begins-other, begins-here, begins-end}
use Rattle.spec_table.proofs.start.Goals as goal
use Rattle.spec_table.proofs.start.Goals.{then-table-at-eq0, else-table-at-eq0}

pub returns-then-left-eq0 : goal.returns-then-left-eq0
returns-then-left-eq0 c = begins-here c.loop-at.invariant c.if-left-eq0.true

pub loop-at-preserved : goal.loop-at-preserved
loop-at-preserved c =
    let inv = c.loop-at.invariant in
    elim c.if-table-at-eq0.branch [
      | then-table-at-eq0 w ↦ begins-zero inv _ w.left-is (search rules) (search rules) w.if-table-at-eq0.true
      | else-table-at-eq0 w ↦ begins-other inv _ w.left-is (search rules) (search rules) w.if-table-at-eq0.false
    ]

pub returns : goal.returns
returns c = omega (arith, c.pass_blocks-place.ensures.inside, begins-end c.loop-at.invariant (search rules))
