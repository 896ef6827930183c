-- `numbers::big_inside`: the number so far is that of the bytes read, and one more byte is its lowest.
use mathlib.Core.Path.{◌≡◌}
use Rattle.numbers.specs.Number.{big_at}
use Rattle.numbers.proofs.big_inside.Given as goal

abbrev pub invariant-loop-read : goal.invariant-loop-read
invariant-loop-read l = l.number ≡ big_at l.s l.at l.read
