-- `key::compare_bytes`: the bytes passed are the same, and the first that differ, or the end of one slice, decide.
use mathlib.Core.Path.{sym, ◌∙◌}
use borrow.Author.Rules.{rules}
use native.Mathlib.Omega.{arith}
use Rattle.key.proofs.Laws.{passed_none, passed-more, differ_at, equal-at-end, below-at-end, above-at-end}
use Rattle.key.proofs.compare_bytes.Goals as goal

pub loop-same-init : goal.loop-same-init
loop-same-init c = (omega arith, passed_none _ _ _)

pub returns-then-b-same : goal.returns-then-b-same
returns-then-b-same c = sym (above-at-end c.loop-same.invariant.1 (search rules) (search rules))

pub returns-then-x-y : goal.returns-then-x-y
returns-then-x-y c = c.cmp.ensures ∙ differ_at c.loop-same.invariant.1 (search rules) (search rules) c.if-x-y.true

pub loop-same-preserved : goal.loop-same-preserved
loop-same-preserved c = (omega arith, passed-more c.loop-same.invariant.1 (search rules) (search rules) c.if-x-y.false)

pub returns-then-max-b : goal.returns-then-max-b
returns-then-max-b c = sym (below-at-end c.loop-same.invariant.1 (omega (arith, c.max.ensures)) (omega (arith, c.max.ensures)))

pub returns-else-max-b : goal.returns-else-max-b
returns-else-max-b c = sym (equal-at-end c.loop-same.invariant.1 (omega (arith, c.max.ensures)) (omega (arith, c.max.ensures)))
