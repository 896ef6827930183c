-- `key_bytes::compare`: the bytes passed are the same, and the first that differ, or the end of one slice, decide.
use mathlib.Core.Path.{sym, ◌∙◌}
use borrow.Author.Rules.{rules}
use native.Mathlib.Omega.{arith}
use Rattle.key.proofs.Laws.{passed_none, passed-more, differ_at, equal-at-end, below-at-end, above-at-end}
use Rattle.key_bytes.proofs.compare.Goals as goal

pub loop-same-init : goal.loop-same-init
loop-same-init c = passed_none _ _ _

pub returns-then-b-same : goal.returns-then-b-same
returns-then-b-same c = sym (above-at-end c.loop-same.invariant (search rules) (search rules))

pub returns-then-x-y : goal.returns-then-x-y
returns-then-x-y c = c.cmp.ensures ∙ differ_at c.loop-same.invariant (search rules) (search rules) c.if-x-y.true

pub loop-same-preserved : goal.loop-same-preserved
loop-same-preserved c = passed-more c.loop-same.invariant (search rules) (search rules) c.if-x-y.false

pub returns-then-a-b : goal.returns-then-a-b
returns-then-a-b c = sym (below-at-end c.loop-same.invariant (omega arith) (omega arith))

pub returns-else-a-b : goal.returns-else-a-b
returns-else-a-b c = sym (equal-at-end c.loop-same.invariant (omega arith) (omega arith))
