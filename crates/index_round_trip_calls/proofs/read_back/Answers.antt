-- `index_round_trip_calls::read_back`: the writer's refusal, the list's, or what the full check answers.
use mathlib.Core.Path.{◌≡◌, ap, ◌∙◌}
use mathlib.Core.List.{List, [], ◌∷◌}
use Prim.Native.Nat.{ℕ}
use lib.ListN.{length}
use Rattle.std.proofs.lemmas.Result.{err_from_is_err_and}
use Rattle.parts.specs.Part.{part_at}
use Rattle.refusal.specs.Check.{silent}
use Rattle.refusal.specs.Outcome.{answered, after}
use Rattle.refusal.specs.Output.{filled}
use Rattle.refusal.proofs.Laws.{refusal-after, answered-after}
use Rattle.index_layout.specs.Layout.{index_length_of}
use Rattle.index_layout.specs.Entries.{list_of}
use Rattle.index.specs.Check.{check_outcome}
use Rattle.index_list.specs.List.{list_check, list_outcome}
use Rattle.index_file.specs.File.{file_of}
use Rattle.index_writer.specs.declared.Settings.{Settings}
use Rattle.index_writer.specs.Write.{layout_for, write_check, write_outcome}
use Rattle.index_round_trip_calls.specs.Trips.{back_check}
use Rattle.index_round_trip_calls.proofs.Laws.{kept, back-refused, back-told, file-read, list-answer, list_left, check-answer}
use Rattle.index_round_trip_calls.proofs.read_back.Goals as goal

-- the settings, the list, the output lent for the file, the room for the list, and what the writer told and left
module _ (settings : Settings) (list lent : List ℕ) (room n : ℕ) (now : List ℕ)
    (told : answered (n ∷ []) ≡ write_outcome settings list (length lent))
    (left-file : now ≡ filled (write_check settings list (length lent)) (file_of list (layout_for settings list)) lent) where
  -- the file was written, and its length is what the writer told
  wrote : (write_check settings list (length lent) ≡ silent) × (n ≡ index_length_of (layout_for settings list))
  wrote =
      let quiet = answered-after (write_check settings list (length lent)) _ (index_length_of (layout_for settings list) ∷ []) told in
      (quiet.0, cc quiet.1)

  module _ (given : List ℕ) (part : given ≡ part_at now 0 n) where
    -- the bytes that are read are the file
    read : given ≡ file_of list (layout_for settings list)
    read = part ∙ file-read settings list (length lent) room wrote.0 lent _ _ left-file wrote.1

    listed : list_outcome given room ≡ after (back_check settings list (length lent) room) (answered (length list ∷ []))
    listed = ap (λ (s : List ℕ). list_outcome s room) read ∙ list-answer settings list (length lent) room wrote.0

    left : (again : List ℕ) → filled (list_check given room) (list_of given) again ≡ filled (back_check settings list (length lent) room) list again
    left again =
        ap (λ (s : List ℕ). filled (list_check s room) (list_of s) again) read
        ∙ list_left settings list (length lent) room wrote.0 again

pub returns-in_err-n : goal.returns-in_err-n
returns-in_err-n c =
    let a = c.args in
    let room = length a.again.now in
    let p = err_from_is_err_and c.from_residual.result c.from_residual.ensures.1 in
    let e = refusal-after (write_check a.settings a.list.now (length a.file.now)) _ _ _ c.in_err-n.ensures.result_value in
    let f = back-refused a.settings a.list.now (length a.file.now) room _ _ e in
    record {
      result_value = rw (p.1, p.2) (back-told a.settings a.list.now (length a.file.now) room f);
      file_after = c.in_err-n.ensures.output_after;
      again_after = kept _ _ f;
    }

pub returns-in_err-list : goal.returns-in_err-list
returns-in_err-list c =
    let a = c.args in
    let room = length a.again.now in
    let w = c.in_ok-n.ensures in
    let p = err_from_is_err_and c.from_residual-in_err-list.result c.from_residual-in_err-list.ensures.1 in
    let told-list = listed a.settings a.list.now a.file.now room _ _ w.result_value w.output_after _ c.part.ensures.result_value in
    let f =
    refusal-after (back_check a.settings a.list.now (length a.file.now) room) _ _ (length a.list.now ∷ [])
    (c.in_err-list.ensures.result_value ∙ told-list) in
    record {
      result_value = rw (p.1, p.2) (back-told a.settings a.list.now (length a.file.now) room f);
      file_after = w.output_after;
      again_after = c.in_err-list.ensures.output_after
          ∙ left a.settings a.list.now a.file.now room _ _ w.result_value w.output_after _ c.part.ensures.result_value a.again.now;
    }

pub returns : goal.returns
returns c =
    let a = c.args in
    let room = length a.again.now in
    let w = c.in_ok-n.ensures in
    let whole = wrote a.settings a.list.now a.file.now room _ _ w.result_value w.output_after in
    let file = read a.settings a.list.now a.file.now room _ _ w.result_value w.output_after _ c.part-2.ensures.result_value in
    let told-list =
    c.in_ok-list.ensures.result_value
    ∙ listed a.settings a.list.now a.file.now room _ _ w.result_value w.output_after _ c.part.ensures.result_value in
    let quiet = (answered-after (back_check a.settings a.list.now (length a.file.now) room) _ _ told-list).0 in
    record {
      result_value = c.check.ensures ∙ ap (λ (s : List ℕ). check_outcome s) file
          ∙ check-answer a.settings a.list.now (length a.file.now) room whole.0 quiet;
      file_after = w.output_after;
      again_after = c.in_ok-list.ensures.output_after
          ∙ left a.settings a.list.now a.file.now room _ _ w.result_value w.output_after _ c.part.ensures.result_value a.again.now;
    }
