-- `listing::put_page`: the lines so far.
use mathlib.Core.Path.{◌≡◌, ap}
use native.Mathlib.Omega.{arith}
use borrow.Author.Rules.{rules}
use Rattle.parts.specs.Part.{parts_from}
use Rattle.index_layout.specs.Layout.{on_page}
use Rattle.index_layout.proofs.Laws.{on-page-most}
use Rattle.listing.specs.Listing.{line, page_text}
use Rattle.text.proofs.PutLaws.{both, told, put-none, put_same, put-part}
use Rattle.listing.proofs.put_page.Goals as goal

pub loop-i-init : goal.loop-i-init
unfolding parts_from
loop-i-init c = put-none _ _ (search rules)

pub overflow_cast-i : goal.overflow_cast-i
overflow_cast-i c = omega (arith, c.on_page-i-end.ensures, on-page-most c.args.l c.args.page.0)

pub loop-i-preserved : goal.loop-i-preserved
loop-i-preserved c =
    put-part _ _ (search rules) c.loop-i.invariant (told _ _ _ _ _ (c.put_line-to.ensures.value, c.put_line-to.ensures.output_after))

pub returns : goal.returns
unfolding page_text
returns c =
    let l = c.loop-i in
    let all : l.i ≡ on_page c.args.l c.args.page.0 = omega (arith, c.on_page-i-end.ensures) in
    let whole = both (put_same l.invariant (ap (parts_from (line c.args.index.now c.args.l c.args.page.0) 0) all)) in
    record { value = whole.0; output_after = whole.1 }
