-- `key::compare` meets its contract: the eights passed are the same; the first that differ decide, else the bytes that are left.
use Prim.Native.Nat.{◌-◌, ◌≤◌}
use lib.ListN.{length}
use Rattle.key.proofs.Laws.{Passed}
use Rattle.key.proofs.compare.Given as goal

abbrev pub invariant-loop-same : goal.invariant-loop-same
invariant-loop-same l = (l.same ≤ length l.a) × (l.same ≤ length l.b) × Passed l.a l.b 0 l.same

abbrev pub decreases-loop-same : goal.decreases-loop-same
decreases-loop-same l = length l.a - l.same
