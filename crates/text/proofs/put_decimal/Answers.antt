-- `text::put_decimal`: the digits so far, after those of the rest.
use mathlib.Core.Path.{refl, sym}
use mathlib.Core.List.{append-nil}
use Prim.Native.Nat.{◌+◌}
use native.Mathlib.Omega.{arith}
use lib.ListN.{length-set}
use borrow.Author.Rules.{rules}
use Rattle.text.specs.Text.{decimal}
use Rattle.text.proofs.TextLaws.{digit-turn, digit-last, two-left, tenth-fits}
use Rattle.text.proofs.put_decimal.Goals as goal

pub loop-rest-init : goal.loop-rest-init
loop-rest-init c = (search rules, refl, search rules, sym (append-nil (decimal c.args.n)))

pub overflow_sub-first : goal.overflow_sub-first
overflow_sub-first c = omega (arith, two-left c.loop-rest.first c.loop-rest.rest (omega arith) c.loop-rest.invariant.2)

pub loop-rest-smaller : goal.loop-rest-smaller
loop-rest-smaller c = omega (arith, two-left c.loop-rest.first c.loop-rest.rest (omega arith) c.loop-rest.invariant.2)

pub loop-rest-preserved : goal.loop-rest-preserved
loop-rest-preserved c =
    let l = c.loop-rest in
    let left = two-left l.first l.rest (omega arith) l.invariant.2 in (
      omega arith,
      simp length-set l.invariant.1,
      tenth-fits l.first l.rest left l.invariant.2,
      digit-turn c.args.n l.first l.rest l.digits (omega arith) left (omega arith) l.invariant.3,
    )

pub slice_bounds-put-end : goal.slice_bounds-put-end
slice_bounds-put-end c =
    let l = c.loop-rest in
    omega (arith, length-set l.digits l.first (48 + l.rest), l.invariant.1)

pub returns : goal.returns
returns c =
    let l = c.loop-rest in
    let n = c.args.n in
    let e = digit-last n l.first l.rest l.digits c.loop-rest-test.false l.invariant.0 l.invariant.1 l.invariant.3 in
    record { value = rw e at c.put.ensures.value; output_after = rw e at c.put.ensures.output_after }
