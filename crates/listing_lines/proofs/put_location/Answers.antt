-- `listing_lines::put_location`: archive number and offset, or a dash.
use mathlib.Core.Path.{◌∙◌}
use borrow.Author.Rules.{rules}
use Rattle.text.specs.Text.{ascii}
use Rattle.text.proofs.PutLaws.{both, told, put_next, put_same}
use Rattle.listing_lines.proofs.Laws.{location-six, location-dash}
use Rattle.listing_lines.proofs.put_location.Goals as goal

pub returns-then-width-eq6 : goal.returns-then-width-eq6
unfolding ascii
returns-then-width-eq6 c =
    let archive = told _ _ _ _ _ (c.put_number-to.ensures.value, c.put_number-to.ensures.output_after) in
    let offset = told _ _ _ _ _ (c.put_number.ensures.value, c.put_number.ensures.output_after) in
    let is = location-six _ _ _ _ c.if-width-eq6.true (c.from.ensures ∙ c.archive.ensures) (c.from-then-width-eq6.ensures ∙ c.offset.ensures) in
    let whole = both (put_same (put_next (search rules) archive offset) is) in
    record { value = whole.0; output_after = whole.1 }

pub returns : goal.returns
unfolding ascii
returns c =
    let dash = told _ _ _ _ _ (c.put_number-2.ensures.value, c.put_number-2.ensures.output_after) in
    let whole = both (put_same dash (location-dash _ _ c.if-width-eq6.false)) in
    record { value = whole.0; output_after = whole.1 }
