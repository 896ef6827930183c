-- `worklist_unquoted::put_undoubled`: the bytes so far, each doubled quote as one.
use native.Mathlib.Omega.{arith}
use borrow.Author.Rules.{rules}
use Rattle.parts.specs.Part.{byte_at}
use Rattle.worklist_unquoted.proofs.Laws.{put-none, put_next, put_all, put-length, step_range}
use Rattle.worklist_unquoted.proofs.put_undoubled.Goals as goal

pub loop-at-init : goal.loop-at-init
loop-at-init c = put-none _ _

pub overflow_add-at : goal.overflow_add-at
overflow_add-at c =
    let bytes = c.args.bytes.now in
    omega (arith, step_range (byte_at bytes c.loop-at.at) c.step-at.result c.step-at.ensures, c.requires)

pub loop-at-smaller : goal.loop-at-smaller
loop-at-smaller c =
    let bytes = c.args.bytes.now in
    omega (arith, step_range (byte_at bytes c.loop-at.at) c.step-at.result c.step-at.ensures)

pub loop-at-preserved : goal.loop-at-preserved
loop-at-preserved c = put_next c.loop-at.invariant _ _ (search rules) c.copy.ensures c.step-at.ensures

pub shape_of-output : goal.shape_of-output
shape_of-output c = put-length c.loop-at.invariant

pub returns : goal.returns
returns c = let whole = put_all c.loop-at.invariant (search rules) in record { value = whole.0; output_after = whole.1 }
