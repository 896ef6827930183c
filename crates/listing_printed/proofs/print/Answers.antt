-- `listing_printed::print`: the listing, or the line of its refusal.
use mathlib.Core.Path.{◌≡◌}
use lib.ListN.{length}
use borrow.Author.Rules.{rules}
use Rattle.text.proofs.PutLaws.{told}
use Rattle.listing_printed.proofs.Laws.{told-length, told-bytes, refused-put}
use Rattle.listing_printed.proofs.print.Goals as goal

pub returns-in-Ok : goal.returns-in-Ok
returns-in-Ok c =
    let a = c.args in
    let room : length a.output.now ≡ 655360 = search rules in
    let e = c.in-Ok.ensures.result_value in
    record { value = told-length a.input.now _ e; output_after = told-bytes a.input.now _ e a.output.now _ room c.listing.ensures.output_after }

pub returns-in-Err : goal.returns-in-Err
returns-in-Err c =
    let a = c.args in
    let room : length a.output.now ≡ 655360 = search rules in
    let line = told _ _ _ _ _ (c.put_refusal.ensures.value, c.put_refusal.ensures.output_after) in
    let whole = refused-put a.input.now _ _ c.in-Err.ensures.result_value a.output.now _ _ _ room c.listing.ensures.output_after line in
    record { value = whole.0; output_after = whole.1 }
