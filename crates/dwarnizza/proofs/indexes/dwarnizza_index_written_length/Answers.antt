-- `dwarnizza::indexes::dwarnizza_index_written_length`: what `index_writer::written_length` answers, laid out.
use mathlib.Core.Path.{◌∙◌}
use Rattle.dwarnizza.proofs.NarrowLaws.{length-narrowed}
use Rattle.crossing.proofs.Laws.{crosses-as}
use Rattle.dwarnizza.proofs.indexes.dwarnizza_index_written_length.Goals as goal

pub returns : goal.returns
returns c =
    let a = c.args in
    let n = c.narrow_settings-settings.ensures in
    crosses-as (c.written_length.ensures ∙ length-narrowed a.version a.offset_width a.key_length n a.list.now) c.tell.ensures
