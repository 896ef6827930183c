-- `root_find_many::judge_all`: the root's check, 12, 161, 13.
use mathlib.Core.Path.{refl, sym, ◌∙◌}
use Rattle.std.specs.Prelude.{Ok, Err}
use Rattle.std.proofs.lemmas.Result.{err_from_is_err_and}
use Rattle.refusal.proofs.Laws.{after-said, after-quiet}
use Rattle.root_layout.specs.Header.{layout_of}
use Rattle.root_layout.proofs.Laws.{passed-layout, refused-layout}
use Rattle.root.specs.Root.{root_check}
use Rattle.root_find_many.proofs.Whole.{root-refused, ids-refused, room-refused, all-passed}
use Rattle.root_find_many.proofs.judge_all.Goals as goal

pub returns-in_err-l : goal.returns-in_err-l
returns-in_err-l c =
    let a = c.args in
    let s = a.file.now in
    let p = err_from_is_err_and c.from_residual.result c.from_residual.ensures.1 in
    let e = refused-layout (root_check s) (layout_of s) (Err c.in_err-l.field-0.0) c.in_err-l.ensures refl in
    rw (p.1, p.2) (sym (after-said _ (root-refused s a.ids.now a.room e)))

pub returns-in_err-check : goal.returns-in_err-check
returns-in_err-check c =
    let a = c.args in
    let s = a.file.now in
    let r = c.from_residual-in_err-check in
    let p = err_from_is_err_and r.result r.ensures.1 in
    let i = passed-layout (root_check s) _ (layout_of s) (Ok c.in_ok-l.l) c.in_ok-l.ensures refl in
    rw (p.1, p.2) (sym (after-said _ (ids-refused s a.ids.now a.room i.0 (sym c.in_err-check.ensures))))

pub returns-then-room-ids : goal.returns-then-room-ids
returns-then-room-ids c =
    let a = c.args in
    let s = a.file.now in
    let i = passed-layout (root_check s) _ (layout_of s) (Ok c.in_ok-l.l) c.in_ok-l.ensures refl in
    rw c.at.ensures (sym (after-said _ (room-refused s a.ids.now a.room i.0 (sym c.in_ok-check.ensures) c.if-room-ids.true)))

pub returns : goal.returns
returns c =
    let a = c.args in
    let s = a.file.now in
    let i = passed-layout (root_check s) _ (layout_of s) (Ok c.in_ok-l.l) c.in_ok-l.ensures refl in
    let e = all-passed s a.ids.now a.room i.0 (sym c.in_ok-check.ensures) c.if-room-ids.false in
    c.in_ok-l.ensures ∙ after-quiet _ i.0 ∙ sym (after-quiet _ e)
