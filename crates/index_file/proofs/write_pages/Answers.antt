-- `index_file::write_pages`: the pages so far lie over the output.
use mathlib.Core.Path.{◌≡◌, sym, ap, ap₂, ◌∙◌}
use Prim.Native.Nat.{◌-◌, ◌≤◌}
use native.Mathlib.Nat.{add-zero}
use native.Mathlib.Omega.{arith}
use lib.ListN.{length}
use Rattle.parts.specs.Part.{part_at, parts_from, overlay}
use Rattle.parts.proofs.Laws.{overlay-none, part_at-length}
use Rattle.index_layout.specs.Layout.{page_size}
use Rattle.index_file.specs.File.{page_in, pages}
use Rattle.index_file.proofs.Laws.{page-laid}
use Rattle.index_file.proofs.write_pages.Goals as goal

pub loop-p-init : goal.loop-p-init
unfolding parts_from
loop-p-init c = (omega arith, sym (add-zero _), sym (overlay-none _ _))

pub loop-p-preserved : goal.loop-p-preserved
loop-p-preserved c =
    let a = c.args in
    let l = c.loop-p in
    let size = c.entries_size-bytes.ensures in
    let short : length c.part-entries.result.now ≤ page_size = omega (
      arith,
      ap length c.part-entries.ensures.result_value,
      part_at-length a.list.now c.list_at.result c.entries_size-bytes.result,
      size.upper_bound,
    ) in
    let entries = c.part-entries.ensures.result_value ∙ ap₂ (part_at a.list.now) c.list_at.ensures size.value in
    let turn = page-laid a.list.now a.l l.p _ _ a.output.now _ _ _ _ entries
    (ap (λ n. page_size - n) size.value) c.part.ensures.result_value l.invariant.1 l.invariant.2 c.copy.ensures in
    (omega arith, turn.0, c.copy-in-loop-p.ensures ∙ turn.1)

pub returns : goal.returns
unfolding pages
returns c =
    let a = c.args in
    let e : c.loop-p.p ≡ a.l.pages = omega arith in
    c.loop-p.invariant.2 ∙ ap (λ n. overlay a.output.now 0 (parts_from (page_in a.list.now a.l) 0 n)) e
