-- `envelope::judge`: 20 to 22, the key, then the chunks.
use mathlib.Core.Path.{refl, sym, ap, ◌∙◌}
use Rattle.std.proofs.lemmas.Result.{err_from_is_err_and}
use Rattle.refusal.proofs.Laws.{skip, after-said, after-quiet}
use Rattle.envelope_header.specs.Header.{opening}
use Rattle.envelope_header.proofs.Laws.{passed-header}
use Rattle.envelope.specs.Envelope.{chunks_check}
use Rattle.envelope.proofs.Laws.{opened-sizes}
use Rattle.envelope.proofs.judge.Goals as goal

pub check_key-requires : goal.check_key-requires
check_key-requires c = (passed-header (opening c.args.file.now) _ _ _ c.in_ok-h.ensures refl).1

pub check_chunks-requires : goal.check_chunks-requires
check_chunks-requires c = let h = passed-header (opening c.args.file.now) _ _ _ c.in_ok-h.ensures refl in opened-sizes _ _ h.0 h.1

pub returns-in_err-check_chunks : goal.returns-in_err-check_chunks
returns-in_err-check_chunks c =
    let h = passed-header (opening c.args.file.now) _ _ _ c.in_ok-h.ensures refl in
    let p = err_from_is_err_and c.from_residual-in_err-check_chunks.result c.from_residual-in_err-check_chunks.ensures.1 in
    let said = c.in_err-check_chunks.ensures ∙ ap (chunks_check _) h.1 in
    rw (p.1, p.2) (sym (after-said _ (skip h.0 (skip (sym c.in_ok-check_key.ensures) (sym said)))))

pub returns : goal.returns
returns c =
    let h = passed-header (opening c.args.file.now) _ _ _ c.in_ok-h.ensures refl in
    let quiet = c.in_ok-check_chunks.ensures ∙ ap (chunks_check _) h.1 in
    rw h.1 (sym (after-quiet _ (skip h.0 (skip (sym c.in_ok-check_key.ensures) (sym quiet)))))
