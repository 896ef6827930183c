-- `spec_table::length`: no byte that was passed is 0.
use borrow.Author.Rules.{rules}
use Rattle.spec_table.proofs.Laws.{unclosed-other, closed-here, never-closed}
use Rattle.spec_table.proofs.length.Goals as goal

pub returns-then-table-end-eq0 : goal.returns-then-table-end-eq0
returns-then-table-end-eq0 c = closed-here c.loop-end.invariant (search rules) c.if-table-end-eq0.true

pub loop-end-preserved : goal.loop-end-preserved
loop-end-preserved c = unclosed-other c.loop-end.invariant (search rules) c.if-table-end-eq0.false

pub returns : goal.returns
returns c = rw c.saturating_sub.ensures (never-closed c.loop-end.invariant (search rules) c.loop-end.auto.end-end)
