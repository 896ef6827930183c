-- `index::read_layout`: the fields of the footer.
use Rattle.index_layout.specs.Layout.{layout_from}
use Rattle.index_open.proofs.read_layout.Goals as goal

pub returns : goal.returns
unfolding layout_from
returns c =
    rw (c.new.ensures, c.entry_count-entries.ensures, c.byte-key_length.ensures, c.byte-offset_width.ensures, c.byte-version.ensures)
