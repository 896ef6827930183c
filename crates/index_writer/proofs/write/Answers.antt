-- `index_writer::write`: refused, or the whole file.
use mathlib.Core.Path.{sym, ap, subst, ◌∙◌}
use mathlib.Core.List.{◌∷◌, []}
use lib.ListN.{length}
use Rattle.std.proofs.lemmas.Result.{err_from_is_err_and}
use Rattle.refusal.specs.Outcome.{answered}
use Rattle.refusal.specs.Check.{silent}
use Rattle.refusal.specs.Output.{filled}
use Rattle.refusal.proofs.Laws.{first_said, after-said, after-quiet, answered-after, refusal-after}
use Rattle.index_layout.specs.Layout.{index_length_of}
use Rattle.index_open.proofs.Laws.{values_one}
use Rattle.index_file.specs.File.{file_of}
use Rattle.index_writer.specs.Write.{layout_for, input_check, write_check}
use Rattle.index_file.specs.Held.{Held}
use Rattle.index_writer.proofs.Laws.{no_room, room-left}
use Rattle.index_writer.proofs.Passed.{passed, held}
use Rattle.index_writer.proofs.write.Goals as goal

pub returns-in_err-l : goal.returns-in_err-l
unfolding filled write_check
returns-in_err-l c =
    let a = c.args in
    let s = a.settings in
    let t = a.list.now in
    let p = err_from_is_err_and c.from_residual.result c.from_residual.ensures.1 in
    let e = first_said _ (refusal-after (input_check s t) _ _ _ c.in_err-l.ensures) in
    record { result_value = rw (p.1, p.2) (sym (after-said _ e)); output_after = sym (ap (λ k. filled k (file_of t (layout_for s t)) a.output.now) e) }

pub returns-then-output-length : goal.returns-then-output-length
unfolding filled
returns-then-output-length c =
    let a = c.args in
    let s = a.settings in
    let t = a.list.now in
    let out = a.output.now in
    let i = answered-after (input_check s t) _ _ c.in_ok-l.ensures in
    let size = c.length.ensures ∙ ap index_length_of (values_one c.in_ok-l.l (layout_for s t) i.1) in
    let e = no_room s t (length out) i.0 (rw size at c.if-output-length.true) in
    record { result_value = rw c.at.ensures (sym (after-said _ e)); output_after = sym (ap (λ k. filled k (file_of t (layout_for s t)) out) e) }

pub write_file-requires-clause-held : goal.write_file-requires-clause-held
write_file-requires-clause-held c =
    let a = c.args in
    let s = a.settings in
    let t = a.list.now in
    let out = a.output.now in
    let i = answered-after (input_check s t) _ _ c.in_ok-l.ensures in
    let one = values_one c.in_ok-l.l (layout_for s t) i.1 in
    let size = c.length.ensures ∙ ap index_length_of one in
    subst (Held t) (sym one) (held s t (length out) (passed s t (length out) (room-left s t (length out) i.0 (rw size at c.if-output-length.false))))

pub returns : goal.returns
returns c =
    let a = c.args in
    let s = a.settings in
    let t = a.list.now in
    let out = a.output.now in
    let i = answered-after (input_check s t) _ _ c.in_ok-l.ensures in
    let one = values_one c.in_ok-l.l (layout_for s t) i.1 in
    let size = c.length.ensures ∙ ap index_length_of one in
    let e = room-left s t (length out) i.0 (rw size at c.if-output-length.false) in
    record {
      result_value = ap (λ n. answered (n ∷ [])) (c.length-2.ensures ∙ ap index_length_of one) ∙ sym (after-quiet _ e);
      output_after = c.write_file.ensures ∙ ap (λ l. filled silent (file_of t l) out) one ∙ sym (ap (λ k. filled k (file_of t (layout_for s t)) out) e);
    }
