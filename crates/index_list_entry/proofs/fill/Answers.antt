-- `index_list_entry::fill`: key, size and location, one after the other.
use mathlib.Core.Path.{ap, ◌∙◌}
use Prim.Native.Nat.{◌-◌}
use native.Mathlib.Omega.{arith}
use Rattle.parts.specs.Part.{part_at}
use Rattle.index_list_entry.proofs.Laws.{big-bytes, entry-laid}
use Rattle.index_list_entry.proofs.fill.Goals as goal

pub returns : goal.returns
returns c =
    let a = c.args in
    let pre = c.requires in
    let sizes = c.to_be_bytes.ensures ∙ big-bytes 4 a.size in
    let location = c.to_be_bytes-2.ensures ∙ big-bytes 8 a.location in
    let locations = c.part.ensures.result_value ∙ ap (λ r. part_at r (8 - a.width) a.width) location in
    entry-laid a.key.now a.output.now _ _ _ _ _ a.width a.size a.location (omega (arith, pre.0)) pre.2
    c.copy.ensures sizes c.copy-2.ensures locations c.copy-3.ensures
