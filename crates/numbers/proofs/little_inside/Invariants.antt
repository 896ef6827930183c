-- `numbers::little_inside`: the number so far is that of the bytes past those left, and the byte before them is its lowest.
use mathlib.Core.Path.{◌≡◌}
use Prim.Native.Nat.{◌+◌, ◌-◌}
use Rattle.numbers.specs.Number.{little_at}
use Rattle.numbers.proofs.little_inside.Given as goal

abbrev pub invariant-loop-left : goal.invariant-loop-left
invariant-loop-left l = l.number ≡ little_at l.s (l.at + l.left) (l.width - l.left)
