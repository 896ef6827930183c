-- `root_find_many::entries::put_equals`: one entry more at each turn.
use mathlib.Core.Path.{◌≡◌, sym, ◌∙◌}
use mathlib.Core.Bool.{Bool, true}
use mathlib.Core.List.{List}
use Prim.Native.Nat.{ℕ, ◌<◌}
use native.Mathlib.Omega.{arith}
use lib.ListN.{length}
use Rattle.id_list.specs.Place.{stands_at}
use Rattle.id_list.specs.Ids.{id_count, id_at}
use Rattle.id_list.proofs.Laws.{stands-true, stands-false, none_before, none-behind}
use Rattle.root_find_many.proofs.Laid.{putting-none, putting-next, putting-all}
use borrow.Author.Rules.{rules}
use Rattle.root_find_many.proofs.entries.put_equals.Goals as goal

-- the id at hand is the sought one
here : (ids : List ℕ) (i id : ℕ) (t : Bool) → t ≡ stands_at ids i id → t ≡ true → (i < id_count ids) × (id_at ids i ≡ id)
here ids i id t e h = stands-true ids i id (sym e ∙ h)

pub loop-output-init : goal.loop-output-init
loop-output-init c =
    let a = c.args in
    let p = c.requires in
    putting-none a.ids.now a.entry.now a.id a.from a.output.now (none_before a.ids.now p.rising a.id a.from p.placed)

pub overflow_mul-i : goal.overflow_mul-i
overflow_mul-i c =
    let h = here c.args.ids.now c.loop-output.i c.args.id c.stands.result c.stands.ensures c.loop-output-test.true in
    omega (arith, h.0, c.requires.room.room, c.well_formed)

pub overflow_add-i : goal.overflow_add-i
overflow_add-i c = omega (arith, (here c.args.ids.now c.loop-output.i c.args.id c.stands.result c.stands.ensures c.loop-output-test.true).0)

pub loop-output-smaller : goal.loop-output-smaller
loop-output-smaller c = omega (arith, (here c.args.ids.now c.loop-output.i c.args.id c.stands.result c.stands.ensures c.loop-output-test.true).0)

pub loop-output-preserved : goal.loop-output-preserved
loop-output-preserved c =
    let long : length c.args.entry.now ≡ 20 = search rules in
    let h = here c.args.ids.now c.loop-output.i c.args.id c.stands.result c.stands.ensures c.loop-output-test.true in
    rw c.copy.ensures (putting-next c.loop-output.invariant c.requires.room long h.0 h.1)

pub shape_of-output : goal.shape_of-output
shape_of-output c = c.loop-output.invariant.kept.size

pub returns : goal.returns
returns c =
    let a = c.args in
    let p = c.requires in
    let l = c.loop-output in
    let other = stands-false a.ids.now l.i a.id (sym c.stands.ensures ∙ c.loop-output-test.false) in record {
      kept = l.invariant.kept;
      turned = record {
        held = putting-all l.invariant
            (λ j h k. none-behind a.ids.now p.rising a.id a.from p.placed l.i l.invariant.forward (omega arith) (other (omega arith)) j h k);
      };
    }
