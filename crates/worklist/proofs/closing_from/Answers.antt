-- `worklist::closing_from`: a quote that waits, and what is left.
use mathlib.Core.Path.{◌≡◌, sym, ap, ◌∙◌}
use Prim.Native.Nat.{◌+◌}
use lib.ListN.{length, drop}
use native.Mathlib.Omega.{arith}
use Rattle.std.specs.Prelude.{Some}
use Rattle.worklist.specs.Rows.{closing_from}
use Rattle.worklist.proofs.Laws.{closing-quote, closing-other, closing-here, closing_end, closing-never}
use Rattle.worklist.proofs.closing_from.Goals as goal
use Rattle.worklist.proofs.closing_from.Goals.{then-text-at-eq-QUOTE, else-text-at-eq-QUOTE+else-pending}

pub returns-then-pending : goal.returns-then-pending
returns-then-pending c =
    sym (c.loop-at.invariant.left ∙ closing-here _ _ _ c.if-pending.true (omega arith) c.if-text-at-eq-QUOTE.false)

pub loop-at-preserved : goal.loop-at-preserved
loop-at-preserved c =
    let text = c.args.text.now in
    let k = c.loop-at in
    let next = k.at + 1 in record {
      left =
          k.invariant.left
          ∙ elim c.if-text-at-eq-QUOTE.branch [
            | then-text-at-eq-QUOTE w ↦
                closing-quote text k.at k.pending (omega arith) w.if-text-at-eq-QUOTE.true
                ∙ ap (λ p. closing_from p next (drop next text)) (sym w.pending-is)
            | else-text-at-eq-QUOTE+else-pending w ↦
                closing-other text k.at k.pending w.if-pending.false (omega arith) w.if-text-at-eq-QUOTE.false
                ∙ ap (λ p. closing_from p next (drop next text)) (sym w.pending-is)
          ];
      inside = λ p. omega arith;
    }

pub returns-then-pending-2 : goal.returns-then-pending-2
returns-then-pending-2 c =
    let l = c.loop-at in
    let end : length c.args.text.now ≡ l.at = omega (arith, l.invariant.inside c.if-pending-2.true) in
    ap Some end ∙ sym (l.invariant.left ∙ closing_end _ _ _ c.if-pending-2.true (omega arith))

pub returns-else-pending-2 : goal.returns-else-pending-2
returns-else-pending-2 c = sym (c.loop-at.invariant.left ∙ closing-never _ _ _ c.if-pending-2.false (omega arith))
