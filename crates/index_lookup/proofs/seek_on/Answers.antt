-- `index_lookup::seek_on` meets its contract: no slot, another key in the slot, or the sought one.
use mathlib.Core.Bool.{not}
use mathlib.Core.Path.{◌≡◌, ap, ◌∙◌}
use mathlib.Core.List.{[], ◌∷◌, ◌++◌}
use Prim.Native.Nat.{◌+◌}
use Rattle.refusal.specs.Outcome.{answered}
use Rattle.index_lookup.proofs.Laws.{no_slot, other_key, same_key}
use Rattle.index_lookup.proofs.seek_on.Goals as goal

pub returns-then-on_page-slot : goal.returns-then-on_page-slot
returns-then-on_page-slot c =
    let a = c.args in
    c.absent.ensures ∙ no_slot _ _ a.l a.page.0 a.count _ _ c.find_slot-end.ensures.result_value c.on_page.ensures c.if-on_page-slot.true

pub returns-then-not-same : goal.returns-then-not-same
returns-then-not-same c =
    let a = c.args in
    let width : c.from.result ≡ a.l.key_length = c.from.ensures in
    c.absent-then-not-same.ensures
    ∙ other_key _ _ a.l a.page.0 a.count _ _ c.find_slot-end.ensures.result_value c.on_page.ensures
    _ _ _ c.if-on_page-slot.false c.entry_at-at.ensures (rw width at c.part.ensures.result_value) c.same.ensures (ap not c.if-not-same.true)

pub returns : goal.returns
returns c =
    let a = c.args in
    let compared = a.count + c.find_slot-end.result.compared + 1 in
    let width : c.from.result ≡ a.l.key_length = c.from.ensures in
    ap (λ v. answered (v ++ compared ∷ [])) c.found.ensures
    ∙ same_key _ _ a.l a.page.0 a.count _ _ c.find_slot-end.ensures.result_value c.on_page.ensures
    _ _ _ c.if-on_page-slot.false c.entry_at-at.ensures (rw width at c.part.ensures.result_value) c.same.ensures
    (ap not c.if-not-same.false)
