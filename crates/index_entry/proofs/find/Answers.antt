-- `index_entry::find`: the opening checks, then the entry in the slot of the page.
use mathlib.Core.Path.{◌≡◌, sym}
use native.Mathlib.Omega.{arith}
use Rattle.std.proofs.lemmas.Result.{err_from_is_err_and}
use Rattle.refusal.proofs.Laws.{after-said, refusal-after, answered-after}
use Rattle.index_layout.specs.Layout.{layout_from, layout_of}
use Rattle.index_layout.proofs.Laws.{on-page-most}
use Rattle.index_open.specs.Open.{opening}
use Rattle.index_open.proofs.Laws.{values_one}
use Rattle.index_open.proofs.Opened.{opened}
use Rattle.index_entry.proofs.Laws.{past-pages, past-slots, told}
use Rattle.index_entry.proofs.find.Goals as goal

pub returns-in_err-l : goal.returns-in_err-l
returns-in_err-l c =
    let p = err_from_is_err_and c.from_residual.result c.from_residual.ensures.1 in
    rw (p.1, p.2) (sym (after-said _ (refusal-after (opening c.args.index.now) _ _ _ c.in_err-l.ensures)))

pub returns-then-from-page : goal.returns-then-from-page
returns-then-from-page c =
    let known = answered-after (opening c.args.index.now) _ _ c.in_ok-l.ensures in
    past-pages _ _ _ _ known.0 (values_one _ _ known.1) (rw c.from.ensures at c.if-from-page.true)

pub returns-then-on_page-slot : goal.returns-then-on_page-slot
returns-then-on_page-slot c =
    let known = answered-after (opening c.args.index.now) _ _ c.in_ok-l.ensures in
    past-slots _ _ _ _ known.0 (values_one _ _ known.1) (rw c.from.ensures at c.if-from-page.false) (rw c.on_page.ensures at c.if-on_page-slot.true)

pub overflow_cast-slot : goal.overflow_cast-slot
overflow_cast-slot c = omega (arith, c.on_page.ensures, on-page-most c.in_ok-l.l c.args.page)

pub found-requires : goal.found-requires
unfolding layout_from
found-requires c =
    let i = c.args.index.now in
    let known = answered-after (opening i) _ _ c.in_ok-l.ensures in
    let same : c.in_ok-l.l ≡ layout_of i = values_one _ _ known.1 in
    rw same (omega (arith, (opened _ known.0).offset-high))

pub returns : goal.returns
returns c =
    let known = answered-after (opening c.args.index.now) _ _ c.in_ok-l.ensures in
    told _ _ _ _ known.0 (values_one _ _ known.1) _
    (rw c.from.ensures at c.if-from-page.false) (rw c.on_page.ensures at c.if-on_page-slot.false) c.found.ensures
