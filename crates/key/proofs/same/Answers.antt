-- `key::same` meets its contract: the eights passed are the same; the first that differ tell, else the bytes that are left.
use mathlib.Core.Path.{sym, ap, ◌∙◌}
use native.Mathlib.Omega.{arith}
use lib.ListN.{length}
use borrow.Author.Rules.{rules}
use Rattle.parts.proofs.Laws.{same_bytes-not}
use Rattle.key.specs.Order.{is_equal}
use Rattle.key.proofs.Laws.{passed_none, passed-eight, differ-eight, equal-is-same, is_eq-is}
use Rattle.key.proofs.same.Goals as goal

pub returns-then-a-b : goal.returns-then-a-b
returns-then-a-b c = sym (same_bytes-not _ _ (λ e. c.if-a-b.true (ap length e)))

pub loop-at-init : goal.loop-at-init
loop-at-init c = (omega arith, search rules, passed_none _ _ _)

pub returns-then-eight_inside : goal.returns-then-eight_inside
returns-then-eight_inside c =
    let x = c.eight_inside.ensures in
    let y = c.eight_inside-in-loop-at.ensures in
    sym (differ-eight c.loop-at.invariant.2 (λ i. (c.type_inv.a i).fits) (λ i. (c.type_inv.b i).fits)
    (λ e. c.if-eight_inside.true (x ∙ e ∙ sym y)))

pub loop-at-preserved : goal.loop-at-preserved
loop-at-preserved c =
    let x = c.eight_inside.ensures in
    let y = c.eight_inside-in-loop-at.ensures in (
      omega arith,
      c.loop-at.invariant.1,
      passed-eight c.loop-at.invariant.2 (λ i. (c.type_inv.a i).fits) (λ i. (c.type_inv.b i).fits)
          (omega arith) (omega (arith, c.loop-at.invariant.1)) (sym x ∙ c.if-eight_inside.false ∙ y),
    )

pub returns : goal.returns
returns c =
    c.is_eq.ensures ∙ is_eq-is _ ∙ ap is_equal (c.compare_bytes.ensures ∙ sym c.loop-at.invariant.2.rest) ∙ equal-is-same _ _
