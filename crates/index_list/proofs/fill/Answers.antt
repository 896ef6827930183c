-- `index_list::fill`: the output begins with the entries of the pages so far.
use mathlib.Core.Path.{◌≡◌, refl, ap, ap₂, ◌∙◌}
use mathlib.Core.List.{◌++◌}
use Prim.Native.Nat.{◌*◌, ◌≤◌}
use native.Mathlib.Omega.{arith}
use lib.ListN.{length, drop}
use Rattle.refusal.specs.Output.{filled}
use Rattle.parts.specs.Part.{part_at, parts_from}
use Rattle.parts.proofs.Parts.{part-turn}
use Rattle.index_layout.specs.Layout.{page_size}
use Rattle.index_layout.specs.Entries.{entries_of, entries_by}
use Rattle.index_layout.proofs.Laws.{on-page-fits}
use Rattle.index_list.proofs.fill.Goals as goal

pub loop-p-init : goal.loop-p-init
unfolding parts_from
loop-p-init c = (refl, refl)

pub overflow_mul-bytes : goal.overflow_mul-bytes
overflow_mul-bytes c =
    let fits : c.on_page.result * c.entry_size-size.result ≤ page_size =
    rw (c.on_page.ensures, c.entry_size-size.ensures.value) (on-page-fits c.args.l c.loop-p.p) in
    omega arith

pub loop-p-preserved : goal.loop-p-preserved
unfolding entries_by
loop-p-preserved c =
    let a = c.args in
    let l = c.loop-p in
    let size = ap₂ ◌*◌ c.on_page.ensures c.entry_size-size.ensures.value in
    let page = c.part-page.ensures.result_value ∙ ap₂ (part_at a.index.now) c.page_at.ensures size in
    let laid = part-turn (entries_of a.index.now a.l) l.p a.l.pages _ a.output.now _ _ c.loop-p-test.true c.requires page l.invariant.0 l.invariant.1 in
    (laid.0, c.copy.ensures ∙ laid.1)

pub returns : goal.returns
unfolding filled entries_by
returns c =
    let a = c.args in
    let e : c.loop-p.p ≡ a.l.pages = omega arith in
    let f = entries_of a.index.now a.l in
    c.loop-p.invariant.1 ∙ ap (λ i. parts_from f 0 i ++ drop (length (parts_from f 0 i)) a.output.now) e
