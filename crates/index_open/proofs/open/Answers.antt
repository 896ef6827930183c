-- `index_open::open`: what the footer says, or its refusal, then 5.
use mathlib.Core.Path.{sym}
use lib.ListN.{length}
use Rattle.std.proofs.lemmas.Result.{err_from_is_err_and}
use borrow.Author.Tests.{eq-eqb, ne_eqb}
use Rattle.refusal.proofs.Laws.{after-said, after-quiet, answered-after, refusal_first}
use Rattle.index_layout.specs.Layout.{layout_of}
use Rattle.index_open.specs.Open.{footer_reading, length_check}
use Rattle.index_open.proofs.Laws.{values_one, length-wrong, length-right}
use Rattle.index_open.proofs.open.Goals as goal

pub returns-in_err-layout : goal.returns-in_err-layout
returns-in_err-layout c =
    let s = c.args.index.now in
    let p = err_from_is_err_and c.from_residual.result c.from_residual.ensures.1 in
    rw (p.1, p.2) (refusal_first (footer_reading s) (length_check s) _ _ c.in_err-layout.ensures)

pub returns-then-index-length : goal.returns-then-index-length
returns-then-index-length c =
    let s = c.args.index.now in
    let l = c.in_ok-layout.layout in
    let i = answered-after (footer_reading s) _ _ c.in_ok-layout.ensures in
    let n = c.length in
    rw c.at.ensures
    (sym (after-said _ (length-wrong s l n.result i.0 (values_one l (layout_of s) i.1) n.ensures (ne_eqb (length s) n.result c.if-index-length.true))))

pub returns : goal.returns
returns c =
    let s = c.args.index.now in
    let l = c.in_ok-layout.layout in
    let i = answered-after (footer_reading s) _ _ c.in_ok-layout.ensures in
    let n = c.length in
    rw i.1 (sym (after-quiet _ (length-right s l n.result i.0 (values_one l (layout_of s) i.1) n.ensures (eq-eqb (length s) n.result c.if-index-length.false))))
