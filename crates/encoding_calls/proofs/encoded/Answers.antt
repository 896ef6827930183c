-- `encoding_calls::encoded`: the refusal of the full check, or what the lookup tells.
use mathlib.Core.Path.{sym, ◌∙◌}
use Rattle.std.proofs.lemmas.Result.{err_from_is_err_and}
use Rattle.encoding_calls.proofs.Laws.{encoding_checked, encoding-refused}
use Rattle.encoding_calls.proofs.encoded.Goals as goal

pub returns-in_err-check : goal.returns-in_err-check
returns-in_err-check c =
    let p = err_from_is_err_and c.from_residual.result c.from_residual.ensures.1 in
    rw (p.1, p.2) (encoding-refused _ _ _ _ (sym c.in_err-check.ensures))

pub returns : goal.returns
returns c = c.find_encoding.ensures ∙ encoding_checked _ _ (sym c.in_ok-check.ensures)
