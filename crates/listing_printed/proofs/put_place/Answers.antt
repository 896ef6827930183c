-- `listing_printed::put_place`: the place where the number has one.
use borrow.Author.Rules.{rules}
use Rattle.text.specs.Text.{ascii}
use Rattle.text.proofs.PutLaws.{both, told, put-none, put_same}
use Rattle.listing_printed.proofs.Laws.{place-told, place-left}
use Rattle.listing_printed.proofs.put_place.Goals as goal

pub returns-then-has_place : goal.returns-then-has_place
unfolding ascii
returns-then-has_place c =
    let put = told _ _ _ _ _ (c.put_number.ensures.value, c.put_number.ensures.output_after) in
    let whole = both (put_same put (place-told _ _ _ c.has_place.ensures c.if-has_place.true)) in
    record { value = whole.0; output_after = whole.1 }

pub returns : goal.returns
returns c =
    let whole = both (put_same (put-none _ _ (search rules)) (place-left _ _ _ c.has_place.ensures c.if-has_place.false)) in
    record { value = whole.0; output_after = whole.1 }
