-- `index_writer::write_file`: the parts one after the other are the file.
use mathlib.Core.Path.{◌∙◌}
use Rattle.index_file.proofs.Parts.{file-laid}
use Rattle.index_writer.proofs.write_file.Goals as goal

pub returns : goal.returns
returns c =
    let a = c.args in
    c.write_footer.ensures
    ∙ file-laid a.list.now a.l c.requires.held a.output.now _ _ _ c.requires.l_in_bounds
    c.write_pages.ensures c.write_last_keys.ensures c.write_page_hashes.ensures
