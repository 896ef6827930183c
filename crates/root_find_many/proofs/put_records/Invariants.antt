-- `root_find_many::put_records`: the records of a block, one after the other.
use Rattle.root_find_many.proofs.Seen.{Passing}
use Rattle.root_find_many.proofs.put_records.Given as goal

abbrev pub invariant-loop-i : goal.invariant-loop-i
invariant-loop-i l = Passing l.file l.l l.at l.i l.last l.ids l.initial.output l.output
