-- `worklist_joined::copy_fields`: the fields of a row that is whole.
use mathlib.Core.Path.{◌∙◌}
use Rattle.worklist_joined.proofs.RowLaws.{none-told, refusal-told}
use Rattle.worklist_joined.proofs.FieldLaws.{stays, malformed_row, has-fields, joined-row}
use Rattle.worklist_joined.proofs.copy_fields.Goals as goal

pub join-requires : goal.join-requires
join-requires c =
    has-fields _ _ _ c.in-Ok-Some.found (rw c.in-Ok-Some.field-0-is at c.in-Ok-Some.ensures) (rw c.in-Ok-Some.field-0-is at c.in-Ok.is)

pub returns-in-Ok : goal.returns-in-Ok
returns-in-Ok c =
    let h = has-fields _ _ _ c.in-Ok-Some.found (rw c.in-Ok-Some.field-0-is at c.in-Ok-Some.ensures) (rw c.in-Ok-Some.field-0-is at c.in-Ok.is) in
    c.join.ensures ∙ joined-row h c.args.output.now

pub returns-in_default : goal.returns-in_default
returns-in_default c =
    malformed_row _ _ _ _ c.in-Ok-Some.found (rw c.in-Ok-Some.field-0-is at c.in-Ok-Some.ensures)
    (rw c.in-Ok-Some.field-0-is at c.in_default.is)

pub returns-in-Ok-None : goal.returns-in-Ok-None
returns-in-Ok-None c = stays _ _ _ _ (none-told _ _ _ (rw c.in-Ok-None.field-0-is at c.in-Ok-None.ensures))

pub returns-in-Err : goal.returns-in-Err
returns-in-Err c = stays _ _ _ _ (refusal-told _ _ _ c.in-Err.ensures)
