-- `index::pages::first_above`: the first key of the file, or two keys across a page end.
use mathlib.Core.Path.{ap, ap₂, ◌∙◌}
use Prim.Native.Nat.{◌-◌}
use Rattle.parts.specs.Part.{part_at}
use Rattle.index_layout.specs.Layout.{entry_at}
use Rattle.index.specs.Check.{not_above}
use Rattle.index.proofs.Laws.{not-above-first}
use Rattle.index.proofs.pages.first_above.Goals as goal

pub returns-then-page-eq0 : goal.returns-then-page-eq0
unfolding not_above
returns-then-page-eq0 c =
    rw c.if-page-eq0.true

pub returns : goal.returns
returns c =
    let a = c.args in
    let s = a.index.now in
    let l = a.l in
    let p = a.page.0 in
    not-above-first s l p _ _ c.rises.result c.if-page-eq0.false c.rises.ensures
    (c.part.ensures.result_value ∙ ap₂ (part_at s) (c.entry_at-last.ensures ∙ ap (entry_at l (p - 1)) c.last_slot.ensures) c.from-key.ensures)
    (c.part-2.ensures.result_value ∙ ap₂ (part_at s) c.entry_at.ensures c.from-key.ensures)
