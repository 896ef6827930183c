-- `encoding_lookup::find_spec`: 30 to 33, then 38.
use mathlib.Core.Path.{refl, sym, ap, ◌∙◌}
use Rattle.std.proofs.lemmas.Result.{err_from_is_err_and}
use Rattle.refusal.proofs.Laws.{after-said, after-quiet}
use Rattle.encoding_header.specs.Header.{header_of, opening}
use Rattle.encoding_header.proofs.Laws.{passed-header, refused-header}
use Rattle.encoding_lookup.specs.Lookup.{spec_told}
use Rattle.encoding_lookup.proofs.find_spec.Goals as goal

pub returns-in_err-h : goal.returns-in_err-h
returns-in_err-h c =
    let s = c.args.file.now in
    let p = err_from_is_err_and c.from_residual.result c.from_residual.ensures.1 in
    rw (p.1, p.2) (sym (after-said _ (refused-header (opening s) (header_of s) _ c.in_err-h.ensures refl)))

pub returns : goal.returns
returns c =
    let s = c.args.file.now in
    let i = passed-header (opening s) _ (header_of s) _ c.in_ok-h.ensures refl in
    c.spec_at.ensures ∙ ap (λ h. spec_told s h c.args.number) i.1 ∙ sym (after-quiet _ i.0)
