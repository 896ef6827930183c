-- `listing_lines::put_header`: one text after the other.
use Rattle.text.specs.Text.{ascii}
use Rattle.listing_lines.proofs.Laws.{header-is}
use Rattle.text.proofs.PutLaws.{both, told, put_next, put_same}
use Rattle.listing_lines.proofs.put_header.Goals as goal

pub returns : goal.returns
unfolding ascii
returns c =
    let room = c.well_formed.1.0.0 in
    let key = told _ _ _ _ _ (c.put_number-to.ensures.value, c.put_number-to.ensures.output_after) in
    let width = told _ _ _ _ _ (c.put_number-to-2.ensures.value, c.put_number-to-2.ensures.output_after) in
    let entries = told _ _ _ _ _ (c.put_number-to-3.ensures.value, c.put_number-to-3.ensures.output_after) in
    let pages = told _ _ _ _ _ (c.put_number-to-4.ensures.value, c.put_number-to-4.ensures.output_after) in
    let end = told _ _ _ _ _ (c.put.ensures.value, c.put.ensures.output_after) in
    let is = header-is c.args.l _ _ _ _ c.from.ensures c.from-2.ensures c.from-3.ensures c.from-4.ensures in
    let whole = both (put_same (put_next room (put_next room (put_next room (put_next room key width) entries) pages) end) is) in
    record { value = whole.0; output_after = whole.1 }
