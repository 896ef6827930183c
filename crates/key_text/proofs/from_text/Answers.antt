-- `key_text::from_text`: what is read has twice as many characters as the key has bytes.
use mathlib.Core.Path.{sym, ◌∙◌}
use native.Mathlib.Omega.{arith}
use Rattle.numbers.proofs.Laws.{within-range}
use Rattle.key_text.proofs.from_text.Goals as goal

pub read-requires : goal.read-requires
read-requires c =
    let range = within-range _ _ _ (sym c.within.ensures ∙ c.if-not-within.false) in
    (omega arith, omega arith)
