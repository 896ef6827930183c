-- `envelope::content_length`: what is judged, then the length.
use mathlib.Core.Path.{refl, sym, ap, ◌∙◌}
use mathlib.Core.List.{[], ◌∷◌}
use lib.ListN.{length}
use Rattle.refusal.specs.Outcome.{answered}
use Rattle.refusal.proofs.Laws.{after-quiet}
use Rattle.envelope_header.proofs.Laws.{passed-header}
use Rattle.envelope.specs.Envelope.{content_by, content_check}
use Rattle.envelope.proofs.Laws.{judged-sizes}
use Rattle.envelope.proofs.content_length.Goals as goal

pub length_of-requires : goal.length_of-requires
length_of-requires c =
    let h = passed-header (content_check c.args.file.now c.args.key.now) _ _ _ c.in_ok-h.ensures refl in
    judged-sizes c.args.file.now c.args.key.now _ h.0 h.1

pub returns : goal.returns
returns c =
    let h = passed-header (content_check c.args.file.now c.args.key.now) _ _ _ c.in_ok-h.ensures refl in
    ap (λ n. answered (n ∷ [])) (c.length_of.ensures ∙ ap (λ h. length (content_by c.args.file.now h)) h.1) ∙ sym (after-quiet _ h.0)
