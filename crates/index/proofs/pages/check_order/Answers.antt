-- `index::pages::check_order`: the first entry, then the rest.
use mathlib.Core.Bool.{not}
use mathlib.Core.Path.{◌≡◌, sym, ap, ◌∙◌}
use Prim.Native.Nat.{◌<◌}
use native.Mathlib.Nat.{sub-zero}
use native.Mathlib.Omega.{arith}
use Rattle.refusal.specs.Check.{refused, first_from}
use Rattle.refusal.specs.Number.{index_order}
use Rattle.refusal.proofs.Laws.{from-none}
use Rattle.index_layout.specs.Layout.{on_page}
use Rattle.index.specs.Check.{order_check}
use Rattle.index.proofs.Laws.{order-said, order-quiet}
use Rattle.index.proofs.pages.check_order.Goals as goal

pub returns-then-on_page-eq0 : goal.returns-then-on_page-eq0
returns-then-on_page-eq0 c =
    let a = c.args in
    let none : on_page a.l a.page.0 ≡ 0 = sym c.on_page.ensures ∙ c.if-on_page-eq0.true in
    rw none (sym (from-none (order_check a.index.now a.l a.page.0) 0))

pub returns-then-not-first_above : goal.returns-then-not-first_above
returns-then-not-first_above c =
    let a = c.args in
    let p = a.page.0 in
    let n = on_page a.l p in
    let some : 0 < n = rw (← c.on_page.ensures) (omega arith) in
    rw c.at.ensures (ap (refused index_order) c.entry_number.ensures
    ∙ sym (order-said a.index.now a.l p 0 n c.first_above.result some c.first_above.ensures (ap not c.if-not-first_above.true))
    ∙ ap (first_from (order_check a.index.now a.l p) 0) (sub-zero n))

pub returns : goal.returns
returns c =
    let a = c.args in
    let p = a.page.0 in
    let n = on_page a.l p in
    let some : 0 < n = rw (← c.on_page.ensures) (omega arith) in
    c.check_rest.ensures
    ∙ sym (order-quiet a.index.now a.l p 0 n c.first_above.result some
    c.first_above.ensures (ap not c.if-not-first_above.false))
    ∙ ap (first_from (order_check a.index.now a.l p) 0) (sub-zero n)
