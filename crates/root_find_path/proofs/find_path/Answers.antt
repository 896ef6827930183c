-- `root_find_path::find_path`: 110, then the lookup of the path's name hash.
use mathlib.Core.Path.{refl, sym, ap, ◌∙◌}
use Rattle.std.specs.Prelude.{Ok, Err}
use Rattle.std.proofs.lemmas.Result.{err_from_is_err_and}
use Rattle.refusal.proofs.Laws.{after-said, after-quiet}
use Rattle.name_hash.proofs.Laws.{passed-hash, refused-hash}
use Rattle.root_find_path.specs.Path.{hash_lookup, path_lookup}
use Rattle.root_find_path.proofs.find_path.Goals as goal

pub returns-in_err-hash-clause-answer_value : goal.returns-in_err-hash-clause-answer_value
unfolding path_lookup
returns-in_err-hash-clause-answer_value c =
    let p = err_from_is_err_and c.from_residual.result c.from_residual.ensures.1 in
    rw (p.1, p.2) (sym (after-said _ (refused-hash c.args.path.now (Err c.in_err-hash.field-0.0) c.in_err-hash.ensures refl)))

pub returns-clause-answer_value : goal.returns-clause-answer_value
unfolding path_lookup
returns-clause-answer_value c =
    let a = c.args in
    let i = passed-hash a.path.now (Ok c.in_ok-hash.hash) c.in_ok-hash.ensures refl in
    c.find_hash.ensures.answer_value ∙ ap (λ x. hash_lookup a.file.now x a.locale a.unwanted) i.1 ∙ sym (after-quiet _ i.0)
