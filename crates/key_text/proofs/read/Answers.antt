-- `key_text::read`: the digits passed are digits, and the bytes that they tell stand over the zeros.
use mathlib.Core.Path.{◌∙◌}
use Prim.Native.Nat.{◌+◌, ◌*◌}
use native.Mathlib.Omega.{arith}
use Rattle.std.proofs.lemmas.Result.{err_from_is_err_and}
use Rattle.key_text.proofs.Laws.{digit-wrong, digit-right, digits-all, pair-right, over-more, over-all}
use Rattle.key_text.proofs.read.Goals as goal

pub returns-in_err-high-clause-check : goal.returns-in_err-high-clause-check
returns-in_err-high-clause-check c =
    let p = err_from_is_err_and c.from_residual.result c.from_residual.ensures.1 in
    let l = c.loop-at in
    rw (p.1, p.2) (digit-wrong _ (2 * l.at) l.invariant.digits (omega arith) c.in_err-high.ensures.check)

pub returns-in_err-low-clause-check : goal.returns-in_err-low-clause-check
returns-in_err-low-clause-check c =
    let p = err_from_is_err_and c.from_residual-in_err-low.result c.from_residual-in_err-low.ensures.1 in
    let l = c.loop-at in
    rw (p.1, p.2)
    (digit-wrong _ (2 * l.at + 1)
    (digit-right _ (2 * l.at) l.invariant.digits (omega arith) c.in_ok-high.ensures.check) (omega arith)
    c.in_err-low.ensures.check)

pub loop-at-preserved : goal.loop-at-preserved
loop-at-preserved c =
    let l = c.loop-at in record {
      digits = pair-right _ l.at l.invariant.digits (omega arith) c.in_ok-high.ensures.check c.in_ok-low.ensures.check;
      told = over-more _ l.bytes l.at _ _ (omega arith) (omega arith) l.invariant.told c.in_ok-high.ensures.value c.in_ok-low.ensures.value;
    }

pub returns : goal.returns
returns c =
    let l = c.loop-at in record {
      check = digits-all _ (2 * l.at) l.invariant.digits (omega arith);
      bytes = l.invariant.told ∙ over-all _ l.at (omega arith);
    }
