-- `index_file::last_key`: the bytes of the key stand in front of zeros.
use mathlib.Core.Path.{◌≡◌, ap, ap₂, ◌∙◌}
use Prim.Native.Nat.{◌≤◌}
use native.Mathlib.Omega.{arith}
use lib.ListN.{length}
use Rattle.parts.specs.Part.{part_at}
use Rattle.index_layout.specs.Layout.{entry_at}
use Rattle.index_file.specs.File.{last_key_of}
use Rattle.index_file.proofs.Laws.{key-front, last-key-short}
use Rattle.index_file.proofs.last_key.Goals as goal

pub returns-clause-count_value : goal.returns-clause-count_value
returns-clause-count_value c =
    let a = c.args in
    let key : c.part-key.result.now ≡ last_key_of a.output.now a.l a.page.0 =
    c.part-key.ensures.result_value
    ∙ ap₂ (part_at a.output.now) (c.entry_at.ensures ∙ ap (entry_at a.l a.page.0) c.last_placed-slot.ensures) c.from.ensures in
    let short : length c.part-key.result.now ≤ 255 = rw key (last-key-short a.output.now a.l a.page.0 (omega (arith, c.well_formed))) in
    ap (λ s. part_at s 0 (length c.part-key.result.now)) c.copy.ensures ∙ key-front _ 255 short ∙ key
