-- `encoding_index::skip`: the first eight bytes tell that the pages passed are above.
use Rattle.encoding_index.specs.Chosen.{Skipped}
use Rattle.encoding_index.proofs.skip.Given as goal

abbrev pub invariant-loop-i : goal.invariant-loop-i
invariant-loop-i l = Skipped l.file l.h l.kind l.key l.from l.i
