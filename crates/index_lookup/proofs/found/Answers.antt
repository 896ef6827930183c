-- `index_lookup::found`: the size and the location of the slot.
use Rattle.index_layout.proofs.Laws.{location-is}
use Rattle.index_lookup.proofs.found.Goals as goal

pub returns : goal.returns
returns c = rw (c.size_at.ensures, location-is _ c.args.l _ _ _ c.requires c.location_at.ensures)
