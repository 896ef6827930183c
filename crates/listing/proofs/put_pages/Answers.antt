-- `listing::put_pages`: the pages so far.
use mathlib.Core.Path.{◌≡◌, ap}
use native.Mathlib.Omega.{arith}
use borrow.Author.Rules.{rules}
use Rattle.parts.specs.Part.{parts_from}
use Rattle.listing.specs.Listing.{page_text, pages_text}
use Rattle.text.proofs.PutLaws.{both, told, put-none, put_same, put-part}
use Rattle.listing.proofs.put_pages.Goals as goal

pub loop-p-init : goal.loop-p-init
unfolding parts_from
loop-p-init c = put-none _ _ (search rules)

pub loop-p-preserved : goal.loop-p-preserved
loop-p-preserved c =
    put-part _ _ (search rules) c.loop-p.invariant (told _ _ _ _ _ (c.put_page-to.ensures.value, c.put_page-to.ensures.output_after))

pub returns : goal.returns
unfolding pages_text
returns c =
    let l = c.loop-p in
    let all : l.p ≡ c.args.l.pages = omega arith in
    let whole = both (put_same l.invariant (ap (parts_from (page_text c.args.index.now c.args.l) 0) all)) in
    record { value = whole.0; output_after = whole.1 }
