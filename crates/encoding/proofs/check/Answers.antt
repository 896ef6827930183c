-- `encoding::check`: 30 to 33, then both kinds.
use mathlib.Core.Path.{refl, sym, ap, ◌∙◌}
use Rattle.std.proofs.lemmas.Result.{err_from_is_err_and}
use Rattle.refusal.proofs.Laws.{first_said, skip}
use Rattle.spec_table.specs.Specs.{count_of}
use Rattle.encoding_header.specs.declared.Kind.TheVariants.{Content, Encoding}
use Rattle.encoding_header.specs.Header.{header_of, opening}
use Rattle.encoding_header.proofs.Laws.{passed-header, refused-header}
use Rattle.encoding.specs.Check.{specs_of, pages_check}
use Rattle.encoding.proofs.check.Goals as goal

pub returns-in_err-h : goal.returns-in_err-h
returns-in_err-h c =
    let s = c.args.file.now in
    let p = err_from_is_err_and c.from_residual.result c.from_residual.ensures.1 in
    rw (p.1, p.2) (sym (first_said _ (refused-header (opening s) (header_of s) _ c.in_err-h.ensures refl)))

pub check_pages-requires : goal.check_pages-requires
unfolding specs_of
check_pages-requires c = c.count-specs.ensures ∙ ap count_of c.spec_table.ensures.result_value

pub check_pages-requires-2 : goal.check_pages-requires-2
unfolding specs_of
check_pages-requires-2 c = c.count-specs.ensures ∙ ap count_of c.spec_table.ensures.result_value

pub returns-in_err-check_pages : goal.returns-in_err-check_pages
returns-in_err-check_pages c =
    let s = c.args.file.now in
    let i = passed-header (opening s) _ _ _ c.in_ok-h.ensures refl in
    let p = err_from_is_err_and c.from_residual-in_err-check_pages.result c.from_residual-in_err-check_pages.ensures.1 in
    let said = c.in_err-check_pages.ensures ∙ ap (λ h. pages_check s h Content) i.1 in
    rw (p.1, p.2) (sym (skip i.0 (first_said _ (sym said))))

pub returns : goal.returns
returns c =
    let s = c.args.file.now in
    let i = passed-header (opening s) _ _ _ c.in_ok-h.ensures refl in
    let quiet = c.in_ok-check_pages.ensures ∙ ap (λ h. pages_check s h Content) i.1 in
    c.check_pages-2.ensures ∙ ap (λ h. pages_check s h Encoding) i.1 ∙ sym (skip i.0 (skip (sym quiet) refl))
