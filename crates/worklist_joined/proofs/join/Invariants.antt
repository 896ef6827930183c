-- `worklist_joined::join`: the first field, and each other behind a separator.
use Rattle.worklist.specs.Rows.{row_at}
use Rattle.worklist_joined.specs.Joined.{fields_of}
use Rattle.worklist_joined.proofs.FieldLaws.{Joining}
use Rattle.worklist_joined.proofs.join.Given as goal

abbrev pub invariant-loop-column : goal.invariant-loop-column
invariant-loop-column l = Joining l.separator l.text (fields_of (row_at l.separator l.text l.at)) l.initial.output l.to l.column l.output
