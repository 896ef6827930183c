-- `listing_printed::put_refusal`: one text after the other.
use mathlib.Core.Path.{◌∙◌}
use Rattle.text.specs.Text.{ascii}
use Rattle.text.proofs.PutLaws.{both, told, put_next, put_same}
use Rattle.listing_printed.proofs.Laws.{line-is}
use Rattle.listing_printed.proofs.put_refusal.Goals as goal

pub returns : goal.returns
unfolding ascii
returns c =
    let room = c.well_formed.1.0.0 in
    let number = told _ _ _ _ _ (c.put_number-to.ensures.value, c.put_number-to.ensures.output_after) in
    let place = told _ _ _ _ _ (c.put_place-to.ensures.value, c.put_place-to.ensures.output_after) in
    let end = told _ _ _ _ _ (c.put.ensures.value, c.put.ensures.output_after) in
    let is = line-is _ _ c.args.r.place (c.from.ensures ∙ c.number.ensures) in
    let whole = both (put_same (put_next room (put_next room number place) end) is) in
    record { value = whole.0; output_after = whole.1 }
