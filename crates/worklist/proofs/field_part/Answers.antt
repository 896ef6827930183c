-- `worklist::field_part`: the part that is told.
use mathlib.Core.Path.{refl}
use native.Mathlib.Omega.{arith}
use Rattle.worklist.proofs.Fields.{found_at, part-found, part-absent, part-refused}
use Rattle.worklist.proofs.field_part.Goals as goal

pub overflow_add-end : goal.overflow_add-end
overflow_add-end c =
    let a = c.args in
    omega (arith, (found_at a.text.now a.at a.separator a.column (rw c.in-Ok-Some.field-0-is at c.in-Ok-Some.ensures)).inside)

pub slice_bounds-result-end : goal.slice_bounds-result-end
slice_bounds-result-end c =
    let a = c.args in
    omega (arith, (found_at a.text.now a.at a.separator a.column (rw c.in-Ok-Some.field-0-is at c.in-Ok-Some.ensures)).inside)

pub returns-in-Ok-Some : goal.returns-in-Ok-Some
returns-in-Ok-Some c =
    let a = c.args in
    let g = found_at a.text.now a.at a.separator a.column (rw c.in-Ok-Some.field-0-is at c.in-Ok-Some.ensures) in
    record { value = part-found g; part = refl; place = omega (arith, g.place) }

pub returns-in-Ok-None : goal.returns-in-Ok-None
returns-in-Ok-None c =
    let p = part-absent c.args.text.now _ _ (rw c.in-Ok-None.field-0-is at c.in-Ok-None.ensures) in
    record { value = p.0; part = refl; place = omega (arith, p.1) }

pub returns-in-Err : goal.returns-in-Err
returns-in-Err c =
    let p = part-refused c.args.text.now _ _ _ c.in-Err.ensures in
    record { value = p.0; part = refl; place = omega (arith, p.1) }
