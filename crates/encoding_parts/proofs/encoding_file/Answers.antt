-- `encoding_parts::encoding_file`: its parts, one laid after the other.
use Rattle.text.specs.Text.{ascii}
use Rattle.spec_table.specs.Specs.{run_of}
use Rattle.encoding_parts.proofs.Example.{file-laid}
use Rattle.encoding_parts.proofs.encoding_file.Goals as goal

pub returns : goal.returns
unfolding ascii run_of
returns c =
    file-laid _ _ _ _ _ _ c.laid-header.ensures c.laid-specs.ensures c.laid-content_index.ensures
    c.laid-content.ensures c.laid-encoding_index.ensures c.encoding_entries.ensures
