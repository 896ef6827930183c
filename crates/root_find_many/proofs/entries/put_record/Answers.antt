-- `root_find_many::entries::put_record`: the id is not sought, or found already, or its entries are put.
use mathlib.Core.Path.{◌≡◌, sym, ◌∙◌}
use mathlib.Core.Bool.{Bool, true}
use mathlib.Core.List.{List}
use Prim.Native.Nat.{ℕ, ◌<◌}
use native.Mathlib.Omega.{arith}
use Rattle.id_list.specs.Place.{stands_at}
use Rattle.id_list.specs.Ids.{id_count, id_at}
use Rattle.id_list.proofs.Laws.{stands-true, none-stands}
use Rattle.root_find_many.specs.Entries.{found_entry}
use Rattle.root_find_many.proofs.Laid.{kept_same, turned_none, turned-found, turned-new}
use Rattle.root_find_many.proofs.entries.put_record.Goals as goal

-- the id of the record is a sought one
here : (ids : List ℕ) (p id : ℕ) (t : Bool) → t ≡ stands_at ids p id → t ≡ true → (p < id_count ids) × (id_at ids p ≡ id)
here ids p id t e h = stands-true ids p id (sym e ∙ h)

pub returns-then-not-stands : goal.returns-then-not-stands
returns-then-not-stands c =
    let a = c.args in
    let p = c.place-at in
    let none = none-stands a.ids.now c.requires.rising a.id p.result p.ensures (sym c.stands.ensures ∙ c.if-not-stands.true) in
    record { kept = kept_same _ _; turned = record { held = λ f h. turned_none a.ids.now a.output.now f (found_entry a.file.now a.key) a.id h none } }

pub overflow_mul-at : goal.overflow_mul-at
overflow_mul-at c =
    let h = here c.args.ids.now c.place-at.result c.args.id c.stands.result c.stands.ensures c.if-not-stands.false in
    omega (arith, h.0, c.requires.room.room, c.well_formed)

pub bounds-output-at : goal.bounds-output-at
bounds-output-at c =
    omega (arith, (here c.args.ids.now c.place-at.result c.args.id c.stands.result c.stands.ensures c.if-not-stands.false).0, c.requires.room.room)

pub returns-then-output-at-gt0 : goal.returns-then-output-at-gt0
returns-then-output-at-gt0 c =
    let a = c.args in
    let h = here a.ids.now c.place-at.result a.id c.stands.result c.stands.ensures c.if-not-stands.false in record {
      kept = kept_same _ _;
      turned = record {
        held = λ f g. turned-found a.ids.now a.output.now f (found_entry a.file.now a.key) a.id g
            c.place-at.result h.0 h.1 c.if-output-at-gt0.true;
      };
    }

pub shape_of-output : goal.shape_of-output
shape_of-output c = c.put_equals.ensures.kept.size

pub returns : goal.returns
returns c =
    let put = c.put_equals in
    let entry = c.entry_of in
    let a = c.args in
    let h = here a.ids.now c.place-at.result a.id c.stands.result c.stands.ensures c.if-not-stands.false in record {
      kept = put.ensures.kept;
      turned = record {
        held = λ f g. turned-new a.ids.now a.output.now f (found_entry a.file.now a.key) a.id g
            c.place-at.result h.0 h.1 _ c.if-output-at-gt0.false (rw entry.ensures at (put.ensures.turned.held f g));
      };
    }
