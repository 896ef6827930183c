-- `root_block::ids::check_ids`: each id is in its range before the next is reckoned.
use mathlib.Core.Path.{◌≡◌, refl, sym, subst}
use mathlib.Core.Bool.{true, false}
use Prim.Native.Nat.{ℕ, ◌+◌, ◌*◌}
use lib.IntN.{ℤ, pos, ◌+ℤ◌}
use mir.Syntax.{w64}
use mir.Val.{to_z, of_z}
use native.Mathlib.Omega.{arith}
use Rattle.root_block.specs.Ids.{in_range}
use Rattle.root_block.proofs.Signed.{below-range, above-range, within-range}
use Rattle.root_block.proofs.Reckoned.{Reckoned, delta-is, reckoned-none, all-reckoned, id-refused, id-taken}
use Rattle.root_block.proofs.ids.check_ids.Goals as goal
use Rattle.root_block.proofs.ids.check_ids.Goals.{then-id-lt0-via-then-id-lt0, then-id-lt0-via-else-id-lt0+then-id-gt-MOST_ID}

-- the id that follows, as the code reckons it
abbrev reckoned_step : ℕ → ℤ → ℤ
reckoned_step id r = to_z w64 (of_z w64 (to_z w64 (of_z w64 (to_z w64 id +ℤ pos 1)) +ℤ to_z w64 (of_z w64 r)))

pub loop-i-init : goal.loop-i-init
loop-i-init c = reckoned-none _ _ _

pub returns-then-id-lt0 : goal.returns-then-id-lt0
returns-then-id-lt0 c =
    let step-is = delta-is c.args.deltas.now c.loop-i.i (4 * c.loop-i.i) c.delta-step.result refl c.delta-step.ensures in
    let out : in_range (reckoned_step c.loop-i.id-bits c.from.result) ≡ false = elim c.then-id-lt0.branch [
      | then-id-lt0-via-then-id-lt0 w ↦ below-range _ w.if-id-lt0.true
      | then-id-lt0-via-else-id-lt0+then-id-gt-MOST_ID w ↦ above-range _ w.if-id-gt-MOST_ID.true
    ] in
    rw c.at.ensures
    (sym (id-refused c.loop-i.id-bits c.loop-i.invariant c.delta-step.result c.delta-step.type_inv step-is c.loop-i-test.true
    (subst (λ r. in_range (reckoned_step c.loop-i.id-bits r) ≡ false) c.from.ensures out)))

pub loop-i-preserved : goal.loop-i-preserved
loop-i-preserved c =
    let step-is = delta-is c.args.deltas.now c.loop-i.i (4 * c.loop-i.i) c.delta-step.result refl c.delta-step.ensures in
    let within = within-range _ c.if-id-lt0.false c.if-id-gt-MOST_ID.false in
    subst (λ r. Reckoned c.args.deltas.now c.args.count c.args.place (c.loop-i.i + 1) (reckoned_step c.loop-i.id-bits r)) (sym c.from.ensures)
    (id-taken c.loop-i.id-bits c.loop-i.invariant c.delta-step.result c.delta-step.type_inv step-is c.loop-i-test.true
    (subst (λ r. in_range (reckoned_step c.loop-i.id-bits r) ≡ true) c.from.ensures within))

pub returns : goal.returns
returns c = sym (all-reckoned c.loop-i.id-bits c.loop-i.invariant (omega arith))
