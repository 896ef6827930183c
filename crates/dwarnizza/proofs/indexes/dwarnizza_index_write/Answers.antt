-- `dwarnizza::indexes::dwarnizza_index_write`: what `index_writer::write` answers, laid out.
use mathlib.Core.Path.{◌∙◌}
use lib.ListN.{length}
use Rattle.dwarnizza.proofs.NarrowLaws.{write-narrowed, file-narrowed}
use Rattle.crossing.proofs.Laws.{crosses-as}
use Rattle.dwarnizza.proofs.indexes.dwarnizza_index_write.Goals as goal

pub returns : goal.returns
returns c =
    let a = c.args in
    let n = c.narrow_settings-settings.ensures in
    let room = length a.output.now in
    let told = c.write.ensures.result_value ∙ write-narrowed a.version a.offset_width a.key_length n a.list.now room in
    let left = c.write.ensures.output_after ∙ file-narrowed a.version a.offset_width a.key_length n a.list.now a.output.now room in
    record { crosses = crosses-as told c.tell.ensures; output_after = left }
