-- `envelope::open`: what is judged, the room, then the content.
use mathlib.Core.Path.{◌≡◌, refl, sym, ap, ap₂, ◌∙◌}
use mathlib.Core.List.{[], ◌∷◌}
use lib.ListN.{length}
use borrow.Author.Tests.{lt-ltb, le-ltb}
use Rattle.refusal.specs.Number.{content_output_short}
use Rattle.refusal.specs.Outcome.{answered}
use Rattle.refusal.specs.Output.{filled}
use Rattle.refusal.proofs.Laws.{said, quiet, first_said, skip, after-said, after-quiet}
use Rattle.envelope_header.specs.Header.{header_of}
use Rattle.envelope_header.proofs.Laws.{passed-header, refused-header}
use Rattle.envelope.specs.Envelope.{content_by, content, content_check, open_check}
use Rattle.envelope.proofs.Laws.{judged-sizes}
use Rattle.envelope.proofs.open.Goals as goal

pub length_of-length-requires : goal.length_of-length-requires
length_of-length-requires c =
    let h = passed-header (content_check c.args.file.now c.args.key.now) _ _ _ c.in_ok-h.ensures refl in
    judged-sizes c.args.file.now c.args.key.now _ h.0 h.1

pub fill-requires-clause-h_value : goal.fill-requires-clause-h_value
fill-requires-clause-h_value c =
    let h = passed-header (content_check c.args.file.now c.args.key.now) _ _ _ c.in_ok-h.ensures refl in
    judged-sizes c.args.file.now c.args.key.now _ h.0 h.1

pub returns-in_err-h-clause-output_after : goal.returns-in_err-h-clause-output_after
unfolding filled
returns-in_err-h-clause-output_after c =
    let s = c.args.file.now in
    let e = first_said _ (refused-header (content_check s c.args.key.now) (header_of s) _ c.in_err-h.ensures refl) in
    sym (ap (λ k. filled k (content s) c.args.output.now) e)

pub returns-then-output-length : goal.returns-then-output-length
unfolding filled
returns-then-output-length c =
    let s = c.args.file.now in
    let room = length c.args.output.now in
    let h = passed-header (content_check s c.args.key.now) _ _ _ c.in_ok-h.ensures refl in
    let size : c.length_of-length.result ≡ length (content s) = c.length_of-length.ensures ∙ ap (λ h. length (content_by s h)) h.1 in
    let e : open_check s c.args.key.now room ≡ _ = skip h.0 (said refl (rw (← size) (lt-ltb _ _ c.if-output-length.true))) in
    record { result_value = rw c.at.ensures (sym (after-said _ e)); output_after = sym (ap (λ k. filled k (content s) c.args.output.now) e) }

pub returns : goal.returns
returns c =
    let s = c.args.file.now in
    let room = length c.args.output.now in
    let h = passed-header (content_check s c.args.key.now) _ _ _ c.in_ok-h.ensures refl in
    let size : c.length_of-length.result ≡ length (content s) = c.length_of-length.ensures ∙ ap (λ h. length (content_by s h)) h.1 in
    let e : open_check s c.args.key.now room ≡ _ = skip h.0 (quiet content_output_short 0 refl (rw (← size) (le-ltb _ _ c.if-output-length.false))) in record {
      result_value = ap (λ n. answered (n ∷ [])) size ∙ sym (after-quiet _ e);
      output_after = c.fill.ensures ∙ ap₂ (λ k h. filled k (content_by s h) c.args.output.now) (sym e) h.1;
    }
