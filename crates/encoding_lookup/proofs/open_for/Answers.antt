-- `encoding_lookup::open_for`: 30 to 33, then 39.
use mathlib.Core.Path.{refl, sym, ◌∙◌}
use Rattle.std.proofs.lemmas.Result.{err_from_is_err_and}
use Rattle.refusal.proofs.Laws.{after-said, after-quiet, refusal_first}
use Rattle.encoding_header.specs.Header.{header_of, opening}
use Rattle.encoding_header.proofs.Laws.{passed-header}
use Rattle.encoding_lookup.specs.Lookup.{length_check}
use Rattle.encoding_lookup.proofs.Laws.{key-wrong, key_right}
use Rattle.encoding_lookup.proofs.open_for.Goals as goal

pub returns-in_err-h : goal.returns-in_err-h
returns-in_err-h c =
    let s = c.args.file.now in
    let p = err_from_is_err_and c.from_residual.result c.from_residual.ensures.1 in
    rw (p.1, p.2) (refusal_first (opening s) (length_check (header_of s) c.args.kind c.args.key.now) _ _ c.in_err-h.ensures)

pub returns-then-key-from : goal.returns-then-key-from
returns-then-key-from c =
    let i = passed-header (opening c.args.file.now) _ _ _ c.in_ok-h.ensures refl in
    rw c.at.ensures (sym (after-said _ (key-wrong _ _ _ _ _ i.0 i.1 c.table.ensures (λ e. c.if-key-from.true (e ∙ sym c.from.ensures)))))

pub returns : goal.returns
returns c =
    let i = passed-header (opening c.args.file.now) _ _ _ c.in_ok-h.ensures refl in
    rw i.1 (sym (after-quiet _ (key_right _ _ _ _ _ i.0 i.1 c.table.ensures (c.if-key-from.false ∙ c.from.ensures))))
