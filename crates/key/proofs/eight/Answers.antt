-- `key::eight` meets its contract: eight bytes are there, or fewer.
use mathlib.Core.Path.{sym, ◌∙◌}
use native.Mathlib.Omega.{arith}
use Rattle.key.proofs.Laws.{eight-there, eight-short}
use Rattle.key.proofs.eight.Goals as goal

pub returns-then-s-lt8 : goal.returns-then-s-lt8
returns-then-s-lt8 c = sym (eight-short _ _ (omega arith))

pub returns-then-s-at : goal.returns-then-s-at
returns-then-s-at c = sym (eight-short _ _ (omega arith))

pub returns : goal.returns
returns c = c.eight_inside.ensures ∙ sym (eight-there _ _ (omega arith))
