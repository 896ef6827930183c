-- `listing::put_text`: header and pages.
use borrow.Author.Rules.{rules}
use Rattle.text.proofs.PutLaws.{both, told, put_next}
use Rattle.listing.specs.Listing.{text_by}
use Rattle.listing.proofs.put_text.Goals as goal

pub returns : goal.returns
unfolding text_by
returns c =
    let header = told _ _ _ _ _ (c.put_header-to.ensures.value, c.put_header-to.ensures.output_after) in
    let pages = told _ _ _ _ _ (c.put_pages.ensures.value, c.put_pages.ensures.output_after) in
    let whole = both (put_next (search rules) header pages) in
    record { value = whole.0; output_after = whole.1 }
