-- `root_find_path::records::id_at`: the id of each record up to the one asked for.
use mathlib.Core.Path.{◌≡◌, refl, sym, ap, ◌∙◌, subst}
use mathlib.Core.Bool.{true}
use mathlib.Core.List.{List}
use Prim.Native.Nat.{ℕ, ◌+◌, ◌*◌, ◌<◌}
use native.Mathlib.Numerals.{add-one}
use native.Mathlib.Omega.{arith}
use lib.Dec.{T}
use lib.IntN.{ℤ, pos, nat_abs}
use lib.Signed.{non_neg}
use mir.Syntax.{w32}
use mir.Val.{Fits}
use Rattle.root_block.specs.Ids.{id_at, in_range}
use Rattle.root_block.proofs.Signed.{range-fits, range-pos}
use Rattle.root_block.proofs.Reckoned.{delta-is, id_before, id-in-range, last_fits, next_fits, next-before}
use Rattle.root_find_path.specs.Records.{Judged}
use Rattle.root_find_path.proofs.records.id_at.Goals as goal

-- the id asked for is the last one reckoned
module _ (d : List ℕ) where
  last-is : (i j : ℕ) (id : ℤ) → j ≡ i + 1 → id ≡ id_before d j → id ≡ id_at d i
  unfolding id_before
  last-is i j id all e = e ∙ ap (id_before d) (all ∙ add-one i)

  in-range : (i count : ℕ) → Judged d count → i < count → in_range (id_at d i) ≡ true
  in-range i count j h = id-in-range _ _ j.place j.passes i h

pub loop-j-init : goal.loop-j-init
unfolding id_before
loop-j-init c = refl

pub overflow_add-id : goal.overflow_add-id
overflow_add-id c =
    let j = c.requires.judged in
    let inside : c.loop-j.j < c.args.count = omega arith in
    last_fits _ _ j.place j.passes _ c.loop-j.id-bits c.loop-j.invariant inside c.delta-step.result c.delta-step.type_inv

pub overflow_add-id-in-loop-j : goal.overflow_add-id-in-loop-j
overflow_add-id-in-loop-j c =
    let j = c.requires.judged in
    let inside : c.loop-j.j < c.args.count = omega arith in
    rw c.from.ensures (next_fits _ _ j.place j.passes _ c.loop-j.id-bits c.loop-j.invariant inside c.delta-step.result c.delta-step.type_inv)

pub loop-j-preserved : goal.loop-j-preserved
loop-j-preserved c =
    let j = c.requires.judged in
    let inside : c.loop-j.j < c.args.count = omega arith in
    let step-is = delta-is c.args.deltas.now c.loop-j.j (4 * c.loop-j.j) c.delta-step.result refl c.delta-step.ensures in
    rw c.from.ensures
    (next-before _ _ j.place j.passes _ c.loop-j.id-bits c.loop-j.invariant inside c.delta-step.result c.delta-step.type_inv step-is)

pub overflow_cast-result : goal.overflow_cast-result
overflow_cast-result c =
    let all : c.loop-j.j ≡ c.args.i + 1 = omega arith in
    let last = last-is c.args.deltas.now c.args.i c.loop-j.j _ all c.loop-j.invariant in
    let range = in-range c.args.deltas.now c.args.i c.args.count c.requires.judged c.requires.i_lt_count in
    subst (λ z. T (non_neg z) × Fits w32 (nat_abs z)) (sym last) (range-fits _ range)

pub returns : goal.returns
returns c =
    let all : c.loop-j.j ≡ c.args.i + 1 = omega arith in
    let last = last-is c.args.deltas.now c.args.i c.loop-j.j _ all c.loop-j.invariant in
    let range = in-range c.args.deltas.now c.args.i c.args.count c.requires.judged c.requires.i_lt_count in
    ap (λ z. pos (nat_abs z)) last ∙ range-pos _ range
