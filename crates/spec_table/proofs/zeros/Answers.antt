-- `spec_table::zeros`: one more where a byte is 0.
use borrow.Author.Rules.{rules}
use Rattle.spec_table.proofs.Laws.{counted-zero, counted-other, counted-all}
use Rattle.spec_table.proofs.zeros.Goals as goal
use Rattle.spec_table.proofs.zeros.Goals.{then-b-eq0, else-b-eq0}

pub loop-b-preserved : goal.loop-b-preserved
loop-b-preserved c =
    let inv = c.loop-b.invariant in
    elim c.if-b-eq0.branch [
      | then-b-eq0 w ↦ counted-zero inv _ w.found-is (search rules) w.if-b-eq0.true
      | else-b-eq0 w ↦ counted-other inv _ w.found-is (search rules) w.if-b-eq0.false
    ]

pub returns : goal.returns
returns c = counted-all c.loop-b.invariant (search rules)
