-- `halving_bytes::halve` meets its contract: each turn leaves what the halving rule leaves.
use mathlib.Core.Path.{sym, ◌∙◌}
use native.Mathlib.Omega.{arith}
use borrow.Author.Rules.{rules}
use Rattle.halving.specs.Halving.{is_key_below}
use Rattle.halving_bytes.proofs.Laws.{reached-whole, reached-after, reached-before, reached-end, offset-fits}
use Rattle.halving_bytes.proofs.halve.Goals as goal

pub loop-left-init : goal.loop-left-init
loop-left-init c = reached-whole _ _

pub overflow_mul-middle : goal.overflow_mul-middle
overflow_mul-middle c = offset-fits (omega arith) (omega arith)

pub loop-left-preserved-then-rises : goal.loop-left-preserved-then-rises
unfolding is_key_below
loop-left-preserved-then-rises c =
    reached-after c.loop-left.invariant (search rules) (sym (rw c.part.ensures.result_value at c.rises.ensures) ∙ c.if-rises.true)

pub loop-left-preserved : goal.loop-left-preserved
unfolding is_key_below
loop-left-preserved c =
    reached-before c.loop-left.invariant (search rules) (sym (rw c.part.ensures.result_value at c.rises.ensures) ∙ c.if-rises.false)

pub returns : goal.returns
returns c = sym (reached-end c.loop-left.invariant (search rules))
