-- `worklist_unquoted::put`: a whole quoted field without its quotes, any other as it is.
use mathlib.Core.Path.{sym, ap, ◌∙◌}
use native.Mathlib.Omega.{arith}
use lib.ListN.{length}
use Rattle.parts.specs.Part.{overlay}
use Rattle.parts.proofs.Laws.{part_at-length}
use Rattle.worklist_unquoted.proofs.Laws.{whole-content, plain-content}
use Rattle.worklist_unquoted.proofs.put.Goals as goal

pub put_undoubled-requires : goal.put_undoubled-requires
put_undoubled-requires c =
    let a = c.args in
    let rest = c.saturating_sub in
    omega (arith, ap length c.part.ensures.result_value, part_at-length a.field.now 1 rest.result, rest.ensures)

pub returns-then-whole : goal.returns-then-whole
returns-then-whole c =
    let p = c.put_undoubled in
    let a = c.args in
    let quoted = sym c.whole.ensures ∙ c.if-whole.true in
    let e = whole-content a.field.now _ _ quoted c.part.ensures.result_value c.saturating_sub.ensures in
    record { value = p.ensures.value ∙ ap length e; output_after = p.ensures.output_after ∙ ap (overlay a.output.now 0) e }

pub returns : goal.returns
returns c =
    let a = c.args in
    let e = plain-content a.field.now (sym c.whole.ensures ∙ c.if-whole.false) in
    record { value = ap length e; output_after = c.copy.ensures ∙ ap (overlay a.output.now 0) e }
