-- `key_bytes::compare`: the bytes passed are the same.
use Rattle.key.proofs.Laws.{Passed}
use Rattle.key_bytes.proofs.compare.Given as goal

abbrev pub invariant-loop-same : goal.invariant-loop-same
invariant-loop-same l = Passed l.a l.b 0 l.same
