-- `key::same` meets its contract: the eights passed are the same; the first that differ tell, else the bytes that are left.
use mathlib.Core.Path.{◌≡◌}
use Prim.Native.Nat.{◌-◌, ◌≤◌}
use lib.ListN.{length}
use Rattle.key.proofs.Laws.{Passed}
use Rattle.key.proofs.same.Given as goal

abbrev pub invariant-loop-at : goal.invariant-loop-at
invariant-loop-at l = (l.at ≤ length l.a) × (length l.a ≡ length l.b) × Passed l.a l.b 0 l.at

abbrev pub decreases-loop-at : goal.decreases-loop-at
decreases-loop-at l = length l.a - l.at
