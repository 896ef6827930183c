-- `md5_calls::hash_parts`: after each part the state is that of the beginning of the message.
use Rattle.md5_calls.specs.Sofar.{Sofar}
use Rattle.md5_calls.proofs.hash_parts.Given as goal

abbrev pub invariant-loop-n : goal.invariant-loop-n
invariant-loop-n l = Sofar l.message l.state
