-- `worklist::field`: the separator, whether a row begins, and what the walk tells.
use mathlib.Core.Path.{sym}
use native.Mathlib.Omega.{arith}
use Rattle.std.proofs.lemmas.Result.{err_from_is_err_and}
use Rattle.worklist.proofs.Told.{refused-told, absent-told, some-told, found-told, none_told}
use Rattle.worklist.proofs.field.Goals as goal

pub returns-in_err-separator : goal.returns-in_err-separator
returns-in_err-separator c =
    let p = err_from_is_err_and c.from_residual.result c.from_residual.ensures.1 in
    rw (p.1, p.2) (refused-told _ _ _ _ c.in_err-separator.ensures.check)

pub returns-then-text-at : goal.returns-then-text-at
returns-then-text-at c = absent-told _ _ _ _ c.in_ok-separator.ensures.check (omega arith)

pub returns-in-Ok : goal.returns-in-Ok
returns-in-Ok c =
    some-told _ _ _ _ c.in_ok-separator.ensures.check (omega arith)
    (found-told _ _ (rw (c.in_ok-separator.ensures.value) at (sym c.in-Ok.ensures)))

pub returns-in-Err : goal.returns-in-Err
returns-in-Err c =
    some-told _ _ _ _ c.in_ok-separator.ensures.check (omega arith)
    (none_told _ _ (rw (c.in_ok-separator.ensures.value) at (sym c.in-Err.ensures)))
