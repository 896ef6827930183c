-- `listing::put_line`: key, size and location of an entry are read.
use mathlib.Core.Path.{ap, ◌∙◌}
use Rattle.parts.specs.Part.{part_at}
use Rattle.listing.proofs.Lines.{line-is}
use Rattle.listing.proofs.put_line.Goals as goal

pub returns : goal.returns
returns c =
    let a = c.args in
    let key = c.part.ensures.result_value ∙ ap (part_at a.index.now c.entry_at.result) c.from.ensures in
    let e = line-is a.index.now a.l a.page.0 a.slot.0 _ c.entry_at.ensures c.requires _ _ _ key (c.from-2.ensures ∙ c.size_at.ensures) c.location_at.ensures in
    record { value = rw e at c.put_entry.ensures.value; output_after = rw e at c.put_entry.ensures.output_after }
