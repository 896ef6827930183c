-- `worklist_unquoted::unquoted`: the content, where there is room for it.
use native.Mathlib.Omega.{arith}
use Rattle.worklist_unquoted.proofs.Laws.{content_written}
use Rattle.worklist_unquoted.proofs.unquoted.Goals as goal

pub returns-clause-output_after : goal.returns-clause-output_after
returns-clause-output_after c = content_written c.args.field.now c.args.output.now _ (omega arith) c.put.ensures.output_after
