-- `encoding_calls::content`: the refusal of the full check, or what the lookup tells.
use mathlib.Core.Path.{sym, ap, ◌∙◌}
use Rattle.std.proofs.lemmas.Result.{err_from_is_err_and}
use Rattle.refusal.specs.Check.{check_of}
use Rattle.encoding_calls.proofs.Laws.{content-checked, content-refused}
use Rattle.encoding_calls.proofs.content.Goals as goal

pub returns-in_err-checked : goal.returns-in_err-checked
returns-in_err-checked c =
    let p = err_from_is_err_and c.from_residual.result c.from_residual.ensures.1 in
    rw (p.1, p.2) (content-refused _ _ _ _ (sym c.check-checked.ensures ∙ ap check_of c.in_err-checked.was))

pub returns : goal.returns
returns c = c.find_content.ensures ∙ content-checked _ _ (sym c.check-checked.ensures ∙ ap check_of c.in_ok-checked.was)
