-- `index_layout::Layout::placed_on`: the rest of the entries, at most a full page.
use native.Mathlib.Omega.{arith}
use Rattle.index_layout.proofs.Laws.{bound}
use Rattle.index_layout.specs.Layout.{placed_on}
use Rattle.index_layout.proofs.Layout.placed_on.Goals as goal

pub overflow_mul-before : goal.overflow_mul-before
overflow_mul-before c =
    omega (arith, bound c.args.page.0 c.full-full.result 4294967295 1024 (omega arith) (omega arith))

pub returns-then-entries-before : goal.returns-then-entries-before
unfolding placed_on
returns-then-entries-before c = rw (← c.full-full.ensures.value) (omega arith)

pub returns-then-entries-before-2 : goal.returns-then-entries-before-2
unfolding placed_on
returns-then-entries-before-2 c = rw (← c.full-full.ensures.value) (omega arith)

pub returns : goal.returns
unfolding placed_on
returns c = rw (← c.full-full.ensures.value) (omega arith)
