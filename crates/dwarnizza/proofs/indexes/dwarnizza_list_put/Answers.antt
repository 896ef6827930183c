-- `dwarnizza::indexes::dwarnizza_list_put`: what `index_list_entry::put_entry` answers, laid out.
use mathlib.Core.Path.{◌∙◌}
use lib.ListN.{length}
use Rattle.index_list_entry.specs.Put.{location_of}
use Rattle.dwarnizza.proofs.NarrowLaws.{put-narrowed, entry-narrowed}
use Rattle.crossing.proofs.Laws.{crosses-as}
use Rattle.dwarnizza.proofs.indexes.dwarnizza_list_put.Goals as goal

pub returns : goal.returns
returns c =
    let a = c.args in
    let n = c.narrow_settings-settings.ensures in
    let room = length a.output.now in
    let location = location_of a.archive a.offset in
    let told = c.put_entry.ensures.result_value ∙ put-narrowed a.version a.offset_width a.key_length n a.key.now a.archive a.offset room in
    let left =
    c.put_entry.ensures.output_after
    ∙ entry-narrowed a.version a.offset_width a.key_length n a.key.now a.output.now a.size a.archive a.offset location room in
    record { crosses = crosses-as told c.tell.ensures; output_after = left }
