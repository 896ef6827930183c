-- `index_round_trip_calls::write_again`: the full check's refusal, the list's, or what the writer answers.
use mathlib.Core.Path.{◌≡◌, ◌∙◌}
use mathlib.Core.List.{[], ◌∷◌}
use Prim.Native.Nat.{ℕ, ◌<◌}
use lib.ListN.{length}
use Rattle.std.proofs.lemmas.Result.{err_from_is_err_and}
use Rattle.parts.specs.Part.{byte_at}
use Rattle.refusal.proofs.Laws.{refusal-after, answered-after}
use Rattle.index_layout.specs.Layout.{layout_of}
use Rattle.index_layout.specs.Entries.{list_of}
use Rattle.index_open.proofs.Laws.{values_one}
use Rattle.index.specs.Check.{full_check}
use Rattle.index_list.specs.List.{list_check}
use Rattle.index_round_trip_calls.proofs.Laws.{kept, again-refused, again-told, list-refused, settled}
use Rattle.index_round_trip_calls.proofs.write_again.Goals as goal

pub returns-in_err-l : goal.returns-in_err-l
returns-in_err-l c =
    let s = c.args.index.now in
    let room = length c.args.list.now in
    let p = err_from_is_err_and c.from_residual.result c.from_residual.ensures.1 in
    let e = list-refused s room _ _ (refusal-after (full_check s) _ _ _ c.in_err-l.ensures) in
    let f = again-refused s room (length c.args.file.now) _ _ e in
    record {
      result_value = rw (p.1, p.2) (again-told s room (length c.args.file.now) _ _ e);
      list_after = kept _ _ e;
      file_after = kept _ _ f;
    }

pub returns-in_err-n : goal.returns-in_err-n
returns-in_err-n c =
    let s = c.args.index.now in
    let room = length c.args.list.now in
    let p = err_from_is_err_and c.from_residual-in_err-n.result c.from_residual-in_err-n.ensures.1 in
    let e = refusal-after (list_check s room) _ _ _ c.in_err-n.ensures.result_value in
    let f = again-refused s room (length c.args.file.now) _ _ e in
    record {
      result_value = rw (p.1, p.2) (again-told s room (length c.args.file.now) _ _ e);
      list_after = c.in_err-n.ensures.output_after;
      file_after = kept _ _ f;
    }

pub returns : goal.returns
returns c =
    let a = c.args in
    let s = a.index.now in
    let yes = answered-after (full_check s) _ _ c.in_ok-l.ensures in
    let layout = values_one c.in_ok-l.l (layout_of s) yes.1 in
    let quiet = answered-after (list_check s (length a.list.now)) _ (length (list_of s) ∷ []) c.in_ok-n.ensures.result_value in
    let size : c.in_ok-n.n ≡ length (list_of s) = cc quiet.1 in
    let bytes : (i : ℕ) → byte_at s i < 256 = λ i. (c.type_inv.index i).fits in
    let same = settled s bytes yes.0 a.list.now c.list.new.output _ (length a.file.now) _ _ _ quiet.0 c.in_ok-n.ensures.output_after size
    layout c.settings_of.ensures c.part.ensures.result_value in
    record {
      result_value = c.write.ensures.result_value ∙ same.0;
      list_after = c.in_ok-n.ensures.output_after;
      file_after = c.write.ensures.output_after ∙ same.1 a.file.now;
    }
