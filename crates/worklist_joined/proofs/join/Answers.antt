-- `worklist_joined::join`: the first field, and each other behind a separator.
use mathlib.Core.Path.{refl, ap, ◌∙◌}
use native.Mathlib.Omega.{arith}
use lib.ListN.{length}
use Rattle.parts.proofs.Laws.{overlay-length}
use Rattle.worklist.proofs.Told.{separator-byte}
use Rattle.worklist_joined.proofs.FieldLaws.{first-laid, all_laid, put-fits, put_on}
use Rattle.worklist_joined.proofs.join.Goals as goal

pub loop-column-init : goal.loop-column-init
loop-column-init c =
    let k = c.before in
    let f = k.before.before.before.before in
    let s = f.before.before.before in
    first-laid s.requires _ f.field_part-first.ensures.value _ _ k.copy.ensures

pub put-to-requires : goal.put-to-requires
put-to-requires c =
    let l = c.loop-column in
    (separator-byte c.args.separator _ refl c.requires.separator, omega (arith, put-fits c.requires l.invariant c.loop-column-test.true))

pub loop-column-preserved : goal.loop-column-preserved
loop-column-preserved c =
    put_on c.requires c.loop-column.invariant c.loop-column-test.true _ c.put-to.ensures.value _ c.put-to.ensures.output_after

pub shape_of-output : goal.shape_of-output
shape_of-output c =
    ap length c.loop-column.invariant.laid ∙ overlay-length _ _ _ ∙ ap length c.copy.ensures ∙ overlay-length _ _ _

pub returns : goal.returns
returns c =
    all_laid c.requires _ c.field_part-first.ensures.value _ _ c.copy.ensures
    c.loop-column.invariant c.loop-column-test.false
