-- `spec_table::string`: there where its zero byte is, from where it begins.
use mathlib.Core.Path.{sym, ap, ◌∙◌}
use Prim.Native.Nat.{◌+◌}
use native.Mathlib.Omega.{arith}
use Rattle.spec_table.proofs.Table.{ends-inside, string-there, string-past, string-at, string-nowhere}
use Rattle.spec_table.proofs.string.Goals as goal

pub overflow_add-at : goal.overflow_add-at
overflow_add-at c =
    let a = c.args in
    omega (arith, ends-inside a.table.now a.number _ _ c.start-at.ensures c.length-count.ensures)

pub returns-then-at-count : goal.returns-then-at-count
returns-then-at-count c =
    let a = c.args in
    let t = a.table.now in
    let place = string-at t a.number _ _ c.start-at.ensures c.length-count.ensures c.if-at-count.true in
    record {
      result_value = c.part.ensures.result_value ∙ string-there t a.number _ _ c.start-at.ensures c.length-count.ensures c.if-at-count.true;
      ref_ptr_value = (c.part.ensures.ref_ptr_value.0, c.part.ensures.ref_ptr_value.1 ∙ ap (λ p. a.table.ref_ptr.1 + p) place);
    }

pub returns : goal.returns
returns c =
    let a = c.args in
    let t = a.table.now in
    record {
      result_value = c.part-2.ensures.result_value ∙ sym (string-past t a.number _ _ c.start-at.ensures c.length-count.ensures c.if-at-count.false);
      ref_ptr_value = (
        c.part-2.ensures.ref_ptr_value.0,
        omega (arith, c.part-2.ensures.ref_ptr_value.1, string-nowhere t a.number _ _ c.start-at.ensures c.length-count.ensures c.if-at-count.false),
      );
    }
