-- `encoding_lookup::spec_at`: a spec is there where it ends before the table does.
use native.Mathlib.Omega.{arith}
use Rattle.spec_table.proofs.Table.{ends-inside}
use Rattle.encoding_lookup.proofs.Laws.{spec-refused, spec-found}
use Rattle.encoding_lookup.proofs.spec_at.Goals as goal

pub overflow_add-start : goal.overflow_add-start
overflow_add-start c = omega (arith, ends-inside _ _ _ _ c.start-start.ensures c.length-length.ensures)

pub returns-then-table-start : goal.returns-then-table-start
returns-then-table-start c =
    rw c.at.ensures
    (spec-refused c.args.file.now c.args.h _ _ _ _ c.spec_table-table.ensures.result_value c.start-start.ensures c.length-length.ensures c.if-table-start.true)

pub returns : goal.returns
returns c =
    spec-found c.args.file.now c.args.h _ _ _ _ c.spec_table-table.ensures.result_value c.start-start.ensures c.length-length.ensures c.if-table-start.false
