-- `root::judge`: the header, then the blocks.
use mathlib.Core.Path.{refl, sym, ap, ◌∙◌}
use Rattle.std.specs.Prelude.{Ok}
use Rattle.std.proofs.lemmas.Result.{err_from_is_err_and}
use Rattle.refusal.proofs.Laws.{refusal_first, skip, after-said, after-quiet}
use Rattle.root_layout.specs.Header.{layout_of, header_check}
use Rattle.root_layout.proofs.Laws.{passed-layout}
use Rattle.root.specs.Root.{blocks_by, blocks_check, root_check}
use Rattle.root.proofs.judge.Goals as goal

pub returns-in_err-l : goal.returns-in_err-l
unfolding root_check
returns-in_err-l c =
    let p = err_from_is_err_and c.from_residual.result c.from_residual.ensures.1 in
    rw (p.1, p.2) (refusal_first (header_check c.args.file.now) _ _ _ c.in_err-l.ensures)

pub returns-in_err-check_blocks : goal.returns-in_err-check_blocks
unfolding root_check
returns-in_err-check_blocks c =
    let s = c.args.file.now in
    let p = err_from_is_err_and c.from_residual-in_err-check_blocks.result c.from_residual-in_err-check_blocks.ensures.1 in
    let i = passed-layout (header_check s) _ (layout_of s) (Ok c.in_ok-l.l) c.in_ok-l.ensures refl in
    rw (p.1, p.2) (sym (after-said _ (skip i.0 (sym (c.in_err-check_blocks.ensures ∙ ap (λ l. blocks_check s l (blocks_by s l)) i.1)))))

pub returns : goal.returns
unfolding root_check
returns c =
    let s = c.args.file.now in
    let i = passed-layout (header_check s) _ (layout_of s) (Ok c.in_ok-l.l) c.in_ok-l.ensures refl in
    c.in_ok-l.ensures ∙ after-quiet _ i.0
    ∙ sym (after-quiet _ (skip i.0 (sym (c.in_ok-check_blocks.ensures ∙ ap (λ l. blocks_check s l (blocks_by s l)) i.1))))
