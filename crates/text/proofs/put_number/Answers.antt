-- `text::put_number`: one text after the other.
use borrow.Author.Rules.{rules}
use Rattle.text.proofs.PutLaws.{both, told, put_next}
use Rattle.text.proofs.put_number.Goals as goal

pub returns : goal.returns
returns c =
    let word = told _ _ _ _ _ (c.put-to.ensures.value, c.put-to.ensures.output_after) in
    let number = told _ _ _ _ _ (c.put_decimal.ensures.value, c.put_decimal.ensures.output_after) in
    let whole = both (put_next (search rules) word number) in
    record { value = whole.0; output_after = whole.1 }
