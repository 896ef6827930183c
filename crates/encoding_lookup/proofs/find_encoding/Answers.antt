-- `encoding_lookup::find_encoding`: by the end of the search.
use mathlib.Core.Path.{refl, sym, ◌∙◌}
use Rattle.std.proofs.lemmas.Result.{err_from_is_err_and}
use Rattle.refusal.proofs.Laws.{after-said}
use Rattle.encoding_header.specs.Header.{header_of}
use Rattle.encoding_header.proofs.Laws.{refused-header}
use Rattle.encoding_header.specs.declared.Kind.TheVariants.{Encoding}
use Rattle.encoding_lookup.specs.Lookup.{lookup_check, encoding_told}
use Rattle.encoding_lookup.proofs.Laws.{lookup-told}
use Rattle.encoding_lookup.proofs.find_encoding.Goals as goal

pub returns-in_err-h : goal.returns-in_err-h
returns-in_err-h c =
    let s = c.args.file.now in
    let p = err_from_is_err_and c.from_residual.result c.from_residual.ensures.1 in
    rw (p.1, p.2) (sym (after-said _ (refused-header (lookup_check s Encoding c.args.key.now) (header_of s) _ c.in_err-h.ensures refl)))

pub returns-in_err-at : goal.returns-in_err-at
returns-in_err-at c =
    let p = err_from_is_err_and c.from_residual-in_err-at.result c.from_residual-in_err-at.ensures.1 in
    rw (p.1, p.2) (lookup-told c.args.file.now Encoding c.args.key.now (encoding_told c.args.file.now) _ c.in_ok-h.ensures _ c.in_err-at.ensures.value)

pub returns-in_err-encoding_at-in-Some : goal.returns-in_err-encoding_at-in-Some
returns-in_err-encoding_at-in-Some c =
    let r = c.from_residual-in_err-encoding_at-in-Some in
    let p = err_from_is_err_and r.result r.ensures.1 in
    rw (p.1, p.2)
    (c.in_err-encoding_at-in-Some.ensures
    ∙ lookup-told c.args.file.now Encoding c.args.key.now (encoding_told c.args.file.now) _ c.in_ok-h.ensures _ (rw c.in-Some.is at c.in_ok-at.ensures.value))

pub returns-in_ok-encoding_at-in-Some : goal.returns-in_ok-encoding_at-in-Some
returns-in_ok-encoding_at-in-Some c =
    c.in_ok-encoding_at-in-Some.ensures
    ∙ lookup-told c.args.file.now Encoding c.args.key.now (encoding_told c.args.file.now) _ c.in_ok-h.ensures _ (rw c.in-Some.is at c.in_ok-at.ensures.value)

pub returns-in-None : goal.returns-in-None
returns-in-None c =
    lookup-told c.args.file.now Encoding c.args.key.now (encoding_told c.args.file.now) _ c.in_ok-h.ensures _ (rw c.in-None.is at c.in_ok-at.ensures.value)
