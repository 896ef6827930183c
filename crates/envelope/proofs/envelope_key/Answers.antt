-- `envelope::envelope_key`: the hash of the header, or of the file.
use mathlib.Core.Path.{◌≡◌, refl, sym, ap, ◌∙◌, subst}
use native.Mathlib.Omega.{arith}
use lib.ListN.{length}
use Rattle.std.specs.Prelude.{IfOk}
use Rattle.refusal.proofs.Laws.{skip}
use Rattle.md5_digest.specs.Message.{md5, limited}
use Rattle.envelope_header.specs.Header.{opening}
use Rattle.envelope_header.proofs.Laws.{passed-header}
use Rattle.envelope.specs.Envelope.{keyed, limit_check}
use Rattle.envelope.proofs.Laws.{limit-judged}
use Rattle.envelope.proofs.envelope_key.Goals as goal

pub returns-clause-check : goal.returns-clause-check
returns-clause-check c =
    let s = c.args.file.now in
    let h = passed-header (opening s) _ _ _ c.in_ok-h.ensures refl in
    c.digest.ensures.check ∙ ap (λ m. limited (length m)) c.keyed.ensures ∙ limit-judged s _ (omega arith) ∙ ap (limit_check s) h.1 ∙ sym (skip h.0 refl)

pub returns-clause-bytes : goal.returns-clause-bytes
returns-clause-bytes c =
    let h = passed-header (opening c.args.file.now) _ _ _ c.in_ok-h.ensures refl in
    subst (λ m. IfOk c.digest.result (λ d. d ≡ md5 m)) (c.keyed.ensures ∙ ap (keyed c.args.file.now) h.1) c.digest.ensures.bytes
