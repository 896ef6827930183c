-- `index_entry::found`: each part where the layout has it.
use mathlib.Core.Path.{ap, ◌∙◌}
use Rattle.index_layout.proofs.Laws.{location-is}
use Rattle.index_entry.specs.Entry.{archive_in, offset_in, values_at, values}
use Rattle.index_entry.proofs.found.Goals as goal

pub returns : goal.returns
unfolding values values_at
returns c =
    let a = c.args in
    let location = location-is _ a.l _ _ _ c.requires c.location_at-location.ensures in
    let archive = c.archive_in.ensures ∙ ap (archive_in a.l.offset_width) location in
    let offset = c.offset_in.ensures ∙ ap (offset_in a.l.offset_width) location in
    rw (c.entry_at.ensures, c.size_at.ensures, archive, offset)
