-- `worklist::stop_from`: no byte that was passed stops.
use mathlib.Core.Path.{◌≡◌, sym, ◌∙◌}
use native.Mathlib.Omega.{arith}
use Rattle.worklist.proofs.Laws.{stop-here, stop-later, stop-end}
use Rattle.worklist.proofs.stop_from.Goals as goal

pub returns-then-stops : goal.returns-then-stops
returns-then-stops c =
    sym (c.loop-at.invariant.left ∙ stop-here _ _ _ (omega arith) (sym c.stops.ensures ∙ c.if-stops.true))

pub loop-at-preserved : goal.loop-at-preserved
loop-at-preserved c = record {
  left = c.loop-at.invariant.left ∙ stop-later _ _ _ (omega arith) (sym c.stops.ensures ∙ c.if-stops.false);
  past = λ h. omega arith;
}

pub returns : goal.returns
returns c =
    let end : c.max.result ≡ c.loop-at.at = grind (arith, c.max.ensures, c.loop-at.invariant.past) in
    end ∙ sym (c.loop-at.invariant.left ∙ stop-end _ _ _ (omega arith))
