-- `index::pages::check_rest`: the first key that falls, or none.
use mathlib.Core.Path.{sym, ap, ◌∙◌}
use native.Mathlib.Omega.{arith}
use Rattle.refusal.specs.Check.{refused}
use Rattle.refusal.specs.Number.{index_order}
use Rattle.parts.specs.Part.{part_at}
use Rattle.index_layout.specs.Layout.{page_size}
use Rattle.index_layout.proofs.Laws.{on-page-most}
use Rattle.index.proofs.Laws.{rest-said, rest-quiet}
use Rattle.index.proofs.pages.check_rest.Goals as goal

pub overflow_cast-count : goal.overflow_cast-count
overflow_cast-count c =
    let a = c.args in
    omega (arith, on-page-most a.l a.page.0, c.on_page-count.ensures)

pub returns-then-fall-count : goal.returns-then-fall-count
returns-then-fall-count c =
    let a = c.args in
    let f = c.fall-fall in
    rw c.at.ensures (ap (refused index_order) c.entry_number.ensures
    ∙ sym (rest-said a.index.now a.l a.page.0 _ _ _ f.result
    (c.part.ensures.result_value ∙ ap (λ at. part_at a.index.now at page_size) c.page_at.ensures) c.entry_size-size.ensures.value
    c.on_page-count.ensures f.ensures c.if-fall-count.true))

pub returns : goal.returns
returns c =
    let a = c.args in
    let f = c.fall-fall in
    sym (rest-quiet a.index.now a.l a.page.0 _ _ _ f.result
    (c.part.ensures.result_value ∙ ap (λ at. part_at a.index.now at page_size) c.page_at.ensures) c.entry_size-size.ensures.value
    c.on_page-count.ensures f.ensures c.if-fall-count.false)
