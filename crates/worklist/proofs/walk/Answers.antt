-- `worklist::walk`: field after field.
use mathlib.Core.Path.{sym, ap, ◌∙◌}
use native.Mathlib.Omega.{arith}
use Rattle.std.specs.Prelude.{Err}
use Rattle.std.proofs.lemmas.Result.{err_from_is_err_and}
use Rattle.worklist.proofs.Rows.{walking-none, walked-malformed, walked_whole, walking_on, kept-here, kept-other, field-forward, separator-inside}
use Rattle.worklist.proofs.walk.Goals as goal
use Rattle.worklist.proofs.walk.Goals.{then-fields-column, else-fields-column}

pub loop-field-init : goal.loop-field-init
loop-field-init c = walking-none _ _ _ _ c.requires

pub returns-in_err-field : goal.returns-in_err-field
returns-in_err-field c =
    let p = err_from_is_err_and c.from_residual.result c.from_residual.ensures.1 in
    p.1 ∙ ap Err p.2 ∙ walked-malformed c.loop-field.invariant (sym c.in_err-field.ensures)

pub overflow_sub-found : goal.overflow_sub-found
overflow_sub-found c =
    let a = c.args in
    field-forward a.separator a.text.now c.loop-field.from _ _ (sym c.in_ok-field.ensures)

pub returns-then-not-separator_at : goal.returns-then-not-separator_at
returns-then-not-separator_at c =
    let w = c.loop-field.invariant in
    walked_whole w _ (sym c.in_ok-field.ensures) _ (elim c.if-fields-column.branch [
      | then-fields-column b ↦ b.found-is ∙ kept-here w _ (sym c.in_ok-field.ensures) b.if-fields-column.true
      | else-fields-column b ↦ b.found-is ∙ kept-other w _ (sym c.in_ok-field.ensures) b.if-fields-column.false
    ])
    (sym c.separator_at.ensures ∙ c.if-not-separator_at.true)

pub overflow_add-from : goal.overflow_add-from
overflow_add-from c =
    let a = c.args in
    omega (arith, separator-inside a.separator a.text.now c.in_ok-field.field.end (sym c.separator_at.ensures ∙ c.if-not-separator_at.false))

pub loop-field-smaller : goal.loop-field-smaller
loop-field-smaller c =
    let a = c.args in
    let f = c.in_ok-field.field in
    let s = sym c.separator_at.ensures ∙ c.if-not-separator_at.false in
    omega (
      arith,
      separator-inside a.separator a.text.now f.end s,
      field-forward a.separator a.text.now c.loop-field.from f.end f.quoted (sym c.in_ok-field.ensures),
    )

pub loop-field-preserved : goal.loop-field-preserved
loop-field-preserved c =
    let w = c.loop-field.invariant in
    walking_on w _ (sym c.in_ok-field.ensures) _ (elim c.if-fields-column.branch [
      | then-fields-column b ↦ b.found-is ∙ kept-here w _ (sym c.in_ok-field.ensures) b.if-fields-column.true
      | else-fields-column b ↦ b.found-is ∙ kept-other w _ (sym c.in_ok-field.ensures) b.if-fields-column.false
    ])
    (sym c.separator_at.ensures ∙ c.if-not-separator_at.false)
