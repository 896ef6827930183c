-- `key::compare` meets its contract: the eights passed are the same; the first that differ decide, else the bytes that are left.
use mathlib.Core.Path.{sym, ap₂, ◌∙◌}
use native.Mathlib.Omega.{arith}
use Rattle.key.proofs.Laws.{passed_none, told-eight, passed-eight}
use Rattle.std.specs.Ordering.{nat_cmp}
use Rattle.key.proofs.compare.Goals as goal

pub loop-same-init : goal.loop-same-init
loop-same-init c = (omega arith, omega arith, passed_none _ _ _)

pub returns-then-b-same-lt8 : goal.returns-then-b-same-lt8
returns-then-b-same-lt8 c = c.compare_bytes.ensures ∙ sym c.loop-same.invariant.2.rest

pub returns-then-x-y : goal.returns-then-x-y
returns-then-x-y c =
    let x = c.eight_inside-x.ensures in
    let y = c.eight_inside-y.ensures in
    c.cmp.ensures ∙ ap₂ nat_cmp x y
    ∙ told-eight c.loop-same.invariant.2 (λ i. (c.type_inv.a i).fits) (λ i. (c.type_inv.b i).fits) (λ e. c.if-x-y.true (x ∙ e ∙ sym y))

pub loop-same-preserved : goal.loop-same-preserved
loop-same-preserved c =
    let x = c.eight_inside-x.ensures in
    let y = c.eight_inside-y.ensures in (
      omega arith,
      omega arith,
      passed-eight c.loop-same.invariant.2 (λ i. (c.type_inv.a i).fits) (λ i. (c.type_inv.b i).fits)
          (omega arith) (omega arith) (sym x ∙ c.if-x-y.false ∙ y),
    )

pub returns : goal.returns
returns c = c.compare_bytes-2.ensures ∙ sym c.loop-same.invariant.2.rest
