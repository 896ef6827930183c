-- `key::compare_bytes`: the bytes passed are the same.
use Prim.Native.Nat.{◌≤◌, max}
use lib.ListN.{length}
use Rattle.key.proofs.Laws.{Passed}
use Rattle.key.proofs.compare_bytes.Given as goal

abbrev pub invariant-loop-same : goal.invariant-loop-same
invariant-loop-same l = (l.same ≤ max (length l.a) l.at) × Passed l.a l.b l.at l.same
