-- `index_writer::written_length`: the length of the file.
use mathlib.Core.Path.{sym, ap, ◌∙◌}
use mathlib.Core.List.{◌∷◌, []}
use Rattle.refusal.specs.Outcome.{answered}
use Rattle.refusal.proofs.Laws.{after-quiet, answered-after}
use Rattle.index_layout.specs.Layout.{index_length_of}
use Rattle.index_open.proofs.Laws.{values_one}
use Rattle.index_writer.specs.Write.{layout_for, input_check}
use Rattle.index_writer.proofs.written_length.Goals as goal

pub returns : goal.returns
returns c =
    let a = c.args in
    let i = answered-after (input_check a.settings a.list.now) _ _ c.in_ok-judge.ensures in
    let one = values_one c.in_ok-judge.field-0 (layout_for a.settings a.list.now) i.1 in
    ap (λ n. answered (n ∷ [])) (c.length.ensures ∙ ap index_length_of one) ∙ sym (after-quiet _ i.0)
