-- `rising::fall`: before key i none fell.
use mathlib.Core.Path.{◌≡◌, sym, ap, ◌∙◌}
use native.Mathlib.Omega.{arith}
use Rattle.parts.specs.Part.{part_at}
use Rattle.rising.proofs.Laws.{at_least, before_at, falls, rises-on, none_left, told_at}
use Rattle.rising.proofs.fall.Goals as goal

pub returns-then-count-i : goal.returns-then-count-i
returns-then-count-i c =
    let a = c.args in
    let k = c.skip-i in
    sym (c.loop-i.invariant.1 ∙ k.ensures.same ∙ none_left a.keys.now a.stride a.width k.result a.count c.if-count-i.true)

pub overflow_sub-at : goal.overflow_sub-at
overflow_sub-at c = at_least c.skip-i.result c.from-step.result (omega (arith, c.skip-i.ensures.forward))

pub returns-then-not-rises : goal.returns-then-not-rises
returns-then-not-rises c =
    let a = c.args in
    let k = c.skip-i in
    let i = k.result in
    let step : c.from-step.result ≡ a.stride = c.from-step.ensures in
    let width : c.from-bytes.result ≡ a.width = c.from-bytes.ensures in
    let before = (rw (step, width) at c.part.ensures.result_value)
    ∙ ap (λ n. part_at a.keys.now n a.width) (before_at i a.stride (omega (arith, k.ensures.forward))) in
    let told = told_at a.keys.now a.stride a.width i _ _ c.rises.result
    c.rises.ensures before (rw (step, width) at c.part-in-loop-i.ensures.result_value) in
    sym (c.loop-i.invariant.1 ∙ k.ensures.same
    ∙ falls a.keys.now a.stride a.width i a.count c.if-count-i.false (told ∙ c.if-not-rises.true))

pub loop-i-preserved : goal.loop-i-preserved
loop-i-preserved c =
    let a = c.args in
    let k = c.skip-i in
    let i = k.result in
    let step : c.from-step.result ≡ a.stride = c.from-step.ensures in
    let width : c.from-bytes.result ≡ a.width = c.from-bytes.ensures in
    let before = (rw (step, width) at c.part.ensures.result_value)
    ∙ ap (λ n. part_at a.keys.now n a.width) (before_at i a.stride (omega (arith, k.ensures.forward))) in
    let told = told_at a.keys.now a.stride a.width i _ _ c.rises.result
    c.rises.ensures before (rw (step, width) at c.part-in-loop-i.ensures.result_value) in (
      omega arith,
      c.loop-i.invariant.1 ∙ k.ensures.same
          ∙ rises-on a.keys.now a.stride a.width i a.count c.if-count-i.false (told ∙ c.if-not-rises.false),
    )

pub returns : goal.returns
returns c =
    let a = c.args in
    sym (c.loop-i.invariant.1 ∙ none_left a.keys.now a.stride a.width c.loop-i.i a.count c.loop-i-test.false)
