-- `listing_lines::put_entry`: key, size and location, one text after the other.
use Rattle.text.specs.Text.{ascii}
use Rattle.text.proofs.PutLaws.{both, told, put_next}
use Rattle.listing_lines.specs.Lines.{entry_line}
use Rattle.listing_lines.proofs.put_entry.Goals as goal

pub returns : goal.returns
unfolding entry_line ascii
returns c =
    let room = c.well_formed.1.1.1.1.0.0 in
    let key = told _ _ _ _ _ (c.put_hex-to.ensures.value, c.put_hex-to.ensures.output_after) in
    let size = told _ _ _ _ _ (c.put_number-to.ensures.value, c.put_number-to.ensures.output_after) in
    let location = told _ _ _ _ _ (c.put_location-to.ensures.value, c.put_location-to.ensures.output_after) in
    let end = told _ _ _ _ _ (c.put.ensures.value, c.put.ensures.output_after) in
    let whole = both (put_next room (put_next room (put_next room key size) location) end) in
    record { value = whole.0; output_after = whole.1 }
