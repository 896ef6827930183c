-- `worklist_joined::copy_rows`: row after row.
use borrow.Author.Rules.{rules}
use mathlib.Core.List.{[]}
use Rattle.refusal.specs.Outcome.{absent}
use mathlib.Core.Path.{◌≡◌, sym, ap, ◌∙◌}
use native.Mathlib.Omega.{arith}
use Rattle.parts.specs.Part.{overlay}
use Rattle.worklist.specs.Rows.{outcome_of_row, row_outcome}
use Rattle.worklist_joined.proofs.RowLaws.{copying-none, copying-on, copied_all, row_next, row-told, next_told, none-told, refusal-told}
use Rattle.worklist_joined.proofs.copy_rows.Goals as goal

pub loop-found-init : goal.loop-found-init
loop-found-init c = copying-none _ _ _

pub overflow_sub-found : goal.overflow_sub-found
overflow_sub-found c =
    let e = rw c.in-Ok-Some.field-0-is at c.in-Ok-Some.ensures in
    omega (arith, next_told _ _ _ e, (row_next c.args.separator c.args.text.now c.loop-found.at (row-told _ _ _ e).inside).0)

pub loop-found-smaller : goal.loop-found-smaller
loop-found-smaller c =
    let e = rw c.in-Ok-Some.field-0-is at c.in-Ok-Some.ensures in
    let inside = (row-told _ _ _ e).inside in
    omega (arith, next_told _ _ _ e, (row_next c.args.separator c.args.text.now c.loop-found.at inside).0, inside)

pub loop-found-preserved : goal.loop-found-preserved
loop-found-preserved c =
    let e = rw c.in-Ok-Some.field-0-is at c.in-Ok-Some.ensures in
    let l = c.loop-found in
    let r = row-told _ _ _ e in
    copying-on l.invariant r.separator r.inside _ (next_told _ _ _ e) _
    (c.copy.ensures ∙ ap (overlay l.output l.at) c.part.ensures.result_value)

pub returns-in_default : goal.returns-in_default
returns-in_default c =
    let none : absent [] ≡ row_outcome c.args.text.now c.loop-found.at c.args.separator = search rules in
    let all = copied_all c.loop-found.invariant (none-told _ _ _ none) in record { value = all.0; output_after = all.1 }

pub returns-in_default-2 : goal.returns-in_default-2
returns-in_default-2 c =
    let all = copied_all c.loop-found.invariant (refusal-told _ _ _ (sym (ap outcome_of_row c.in_default.is) ∙ c.row.ensures)) in
    record { value = all.0; output_after = all.1 }
