-- `encoding_lookup::encoding_at`: the entry's fields, and its spec by the number.
use Rattle.std.proofs.lemmas.Result.{err_from_is_err_and}
use Rattle.numbers.proofs.Laws.{big_at-below}
use Rattle.encoding_page.specs.Entries.{spec_number_at}
use Rattle.encoding_lookup.proofs.Laws.{encoding-refused, encoding-found}
use Rattle.encoding_lookup.proofs.encoding_at.Goals as goal

pub overflow_cast-number : goal.overflow_cast-number
overflow_cast-number c = record { fits = rw c.big-number.ensures (big_at-below _ (λ k. (c.type_inv.file k).fits) _ 4) }

pub returns-in_err-place : goal.returns-in_err-place
unfolding spec_number_at
returns-in_err-place c =
    let p = err_from_is_err_and c.from_residual.result c.from_residual.ensures.1 in
    rw (p.1, p.2) (encoding-refused c.args.file.now c.args.h c.args.at _ (rw c.from.ensures at c.big-number.ensures) _ _ c.in_err-place.ensures)

pub returns : goal.returns
unfolding spec_number_at
returns c =
    encoding-found c.args.file.now c.args.h c.args.at _ (rw c.from.ensures at c.big-number.ensures) _ _ _ (rw c.from.ensures at c.big.ensures)
    c.in_ok-place.ensures
