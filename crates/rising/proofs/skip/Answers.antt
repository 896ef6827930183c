-- `rising::skip`: up to key i each key is above the one before by its first eight bytes.
use mathlib.Core.Path.{◌≡◌, refl, ap, ◌∙◌}
use Prim.Native.Nat.{◌+◌, ◌-◌, ◌*◌, ◌<◌, ◌≤◌}
use native.Mathlib.Omega.{arith}
use lib.ListN.{length}
use Rattle.numbers.specs.Number.{big_at}
use Rattle.key.proofs.Laws.{eight-there}
use Rattle.rising.proofs.Laws.{at_least, key-at, before_at, next-at, rises-on, eight-rises}
use Rattle.rising.proofs.skip.Goals as goal

pub loop-i-init : goal.loop-i-init
loop-i-init c =
    let a = c.args in
    let step : c.from-step.result ≡ a.stride = c.from-step.ensures in
    let wide : 8 ≤ a.stride = rw step at c.if-step-lt8.false in
    let long : a.count * a.stride ≤ length a.keys.now = rw step at c.if-keys-count.false in
    let there = eight-there a.keys.now (a.from * a.stride - a.stride)
    (omega (arith, key-at a.from a.stride a.count (omega arith), at_least a.from a.stride (omega arith))) in
    let first = (rw step at c.eight-before.ensures) ∙ there ∙ ap (λ n. big_at a.keys.now n 8) (before_at a.from a.stride (omega arith)) in
    (ap (λ n. a.from * n) step, first, refl)

pub loop-i-preserved : goal.loop-i-preserved
loop-i-preserved c =
    let a = c.args in
    let s = a.keys.now in
    let l = c.loop-i in
    let step : c.from-step.result ≡ a.stride = c.from-step.ensures in
    let wide : 8 ≤ a.stride = rw step at c.if-step-lt8.false in
    let long : a.count * a.stride ≤ length s = rw step at c.if-keys-count.false in
    let there = eight-there s l.at (omega (arith, l.invariant.0, key-at l.i a.stride a.count (omega arith))) in
    let here = c.eight-here.ensures ∙ there ∙ ap (λ n. big_at s n 8) l.invariant.0 in
    let above : big_at s ((l.i - 1) * a.stride) 8 < big_at s (l.i * a.stride) 8 = rw (← l.invariant.1, ← here) c.if-here-before.false in
    let rises = eight-rises s a.stride a.width l.i c.if-width-lt8.false (λ j. (c.type_inv.keys j).fits) above in
    let back : l.i ≡ l.i + 1 - 1 = omega arith in (
      rw step (omega (arith, l.invariant.0, next-at l.i a.stride)),
      here ∙ ap (λ j. big_at s (j * a.stride) 8) back,
      l.invariant.2 ∙ rises-on s a.stride a.width l.i a.count (omega arith) rises,
    )
