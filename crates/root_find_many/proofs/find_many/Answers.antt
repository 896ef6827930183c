-- `root_find_many::find_many`: the checks, then the entries.
use mathlib.Core.Path.{refl, sym, ap, ◌∙◌}
use native.Mathlib.Omega.{arith}
use lib.ListN.{length}
use Rattle.std.specs.Prelude.{Ok, Err}
use Rattle.std.proofs.lemmas.Result.{err_from_is_err_and}
use Rattle.refusal.specs.Output.{filled}
use Rattle.refusal.proofs.Laws.{after-said, after-quiet}
use Rattle.id_list.proofs.Laws.{ids-rise}
use Rattle.root_layout.specs.Header.{layout_of}
use Rattle.root_layout.proofs.Laws.{passed-layout, refused-layout}
use Rattle.root.proofs.First.{root_passed}
use Rattle.root_find_many.specs.Many.{many_bytes, many_check}
use Rattle.root_find_many.specs.Entries.{Room}
use Rattle.root_find_many.proofs.Whole.{root_passes, ids-pass, room-there, all-filled}
use Rattle.root_find_many.proofs.find_many.Goals as goal

pub returns-in_err-l : goal.returns-in_err-l
unfolding filled
returns-in_err-l c =
    let a = c.args in
    let s = a.file.now in
    let k = many_check s a.ids.now (length a.output.now) in
    let p = err_from_is_err_and c.from_residual.result c.from_residual.ensures.1 in
    let e = refused-layout k (layout_of s) (Err c.in_err-l.field-0.0) c.in_err-l.ensures refl in
    rw (p.1, p.2)
    (record { result_value = sym (after-said _ e); output_after = sym (ap (λ t. filled t (many_bytes s a.ids.now a.locale a.unwanted) a.output.now) e) })

pub fill-requires : goal.fill-requires
fill-requires c =
    let a = c.args in
    let s = a.file.now in
    let ids = a.ids.now in
    let p = passed-layout (many_check s ids (length a.output.now)) _ (layout_of s) (Ok c.in_ok-l.l) c.in_ok-l.ensures refl in
    let e = p.0 in record {
      l_value = root_passed s _ (root_passes s ids _ e) p.1;
      rising = ids-rise ids (ids-pass s ids _ e);
      room = record { room = room-there s ids _ e };
    }

pub overflow_mul-result : goal.overflow_mul-result
overflow_mul-result c =
    let a = c.args in
    let p = passed-layout (many_check a.file.now a.ids.now (length a.output.now)) _ (layout_of a.file.now) (Ok c.in_ok-l.l) c.in_ok-l.ensures refl in
    omega (arith, room-there a.file.now a.ids.now (length a.output.now) p.0, c.well_formed)

pub shape_of-output : goal.shape_of-output
shape_of-output c = c.fill.ensures.kept.size

pub returns : goal.returns
unfolding filled
returns c =
    let a = c.args in
    let s = a.file.now in
    let ids = a.ids.now in
    let p = passed-layout (many_check s ids (length a.output.now)) _ (layout_of s) (Ok c.in_ok-l.l) c.in_ok-l.ensures refl in
    let e = p.0 in
    let f = c.fill in
    let room : Room ids a.output.now = record { room = room-there s ids (length a.output.now) e } in
    let bytes = all-filled s ids a.output.now _ _ a.locale a.unwanted (root_passes s ids _ e) p.1 room f.ensures.kept f.ensures.held in
    record { result_value = sym (after-quiet _ e); output_after = bytes ∙ sym (ap (λ t. filled t (many_bytes s ids a.locale a.unwanted) a.output.now) e) }
