-- `index::pages::check_pages`: no check failed before page p.
use mathlib.Core.Path.{◌≡◌, sym, ap, ◌∙◌}
use Prim.Native.Nat.{◌+◌, ◌-◌}
use native.Mathlib.Nat.{sub-zero}
use native.Mathlib.Omega.{arith}
use borrow.Author.Rules.{rules}
use Rattle.std.proofs.lemmas.Result.{err_from_is_err_and}
use Rattle.refusal.specs.Check.{first_from}
use Rattle.refusal.proofs.Laws.{upto-said, upto-quiet, upto-end}
use Rattle.index.specs.Check.{page_check, pages_check}
use Rattle.index.proofs.pages.check_pages.Goals as goal

pub loop-p-init : goal.loop-p-init
loop-p-init c = (search rules, rw sub-zero)

pub returns-in_err-check_page : goal.returns-in_err-check_page
unfolding pages_check
returns-in_err-check_page c =
    let l = c.loop-p in
    let p = err_from_is_err_and c.from_residual.result c.from_residual.ensures.1 in
    rw (p.1, p.2)
    (sym (l.invariant.1 ∙ upto-said (page_check c.args.index.now c.args.l) l.p c.args.l.pages c.loop-p-test.true (sym c.in_err-check_page.ensures)))

pub returns-then-pages-next : goal.returns-then-pages-next
unfolding pages_check
returns-then-pages-next c =
    let l = c.loop-p in
    let check = page_check c.args.index.now c.args.l in
    let first = l.invariant.1 ∙ upto-quiet check l.p c.args.l.pages c.loop-p-test.true (sym c.in_ok-check_page.ensures) in
    sym (first ∙ upto-end check (l.p + 1) c.args.l.pages c.if-pages-next.true)

pub returns-in_err-check_page-2 : goal.returns-in_err-check_page-2
unfolding pages_check
returns-in_err-check_page-2 c =
    let l = c.loop-p in
    let p = err_from_is_err_and c.from_residual-in_err-check_page-2.result c.from_residual-in_err-check_page-2.ensures.1 in
    let check = page_check c.args.index.now c.args.l in
    let first = l.invariant.1 ∙ upto-quiet check l.p c.args.l.pages c.loop-p-test.true (sym c.in_ok-check_page.ensures) in
    rw (p.1, p.2) (sym (first ∙ upto-said check (l.p + 1) c.args.l.pages c.if-pages-next.false (sym c.in_err-check_page-2.ensures)))

pub loop-p-preserved : goal.loop-p-preserved
loop-p-preserved c =
    let l = c.loop-p in
    let n = c.args.l.pages in
    let check = page_check c.args.index.now c.args.l in
    let two : l.p + 1 + 1 ≡ l.p + 2 = omega arith in (
      omega arith,
      l.invariant.1 ∙ upto-quiet check l.p n c.loop-p-test.true (sym c.in_ok-check_page.ensures)
          ∙ upto-quiet check (l.p + 1) n c.if-pages-next.false (sym c.in_ok-check_page-2.ensures)
          ∙ ap (λ i. first_from check i (n - i)) two,
    )

pub returns : goal.returns
unfolding pages_check
returns c =
    let l = c.loop-p in
    sym (l.invariant.1 ∙ upto-end (page_check c.args.index.now c.args.l) l.p c.args.l.pages c.loop-p-test.false)
