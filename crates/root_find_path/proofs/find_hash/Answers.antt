-- `root_find_path::find_hash`: what is judged, then the search.
use mathlib.Core.Path.{refl, sym}
use Rattle.std.specs.Prelude.{Ok, Err}
use Rattle.std.proofs.lemmas.Result.{err_from_is_err_and}
use Rattle.refusal.proofs.Laws.{after-said}
use Rattle.root_layout.specs.Header.{layout_of}
use Rattle.root_layout.proofs.Laws.{passed-layout, refused-layout}
use Rattle.root.specs.Root.{root_check}
use Rattle.root.proofs.First.{root_passed}
use Rattle.root_find_path.specs.Path.{hash_lookup}
use Rattle.root_find_path.proofs.Laws.{looked}
use Rattle.root_find_path.proofs.find_hash.Goals as goal

pub returns-in_err-l-clause-answer_value : goal.returns-in_err-l-clause-answer_value
unfolding hash_lookup
returns-in_err-l-clause-answer_value c =
    let s = c.args.file.now in
    let p = err_from_is_err_and c.from_residual.result c.from_residual.ensures.1 in
    rw (p.1, p.2) (sym (after-said _ (refused-layout (root_check s) (layout_of s) (Err c.in_err-l.field-0.0) c.in_err-l.ensures refl)))

pub search-requires : goal.search-requires
search-requires c =
    let s = c.args.file.now in
    let i = passed-layout (root_check s) _ (layout_of s) (Ok c.in_ok-l.l) c.in_ok-l.ensures refl in
    root_passed _ _ i.0 i.1

-- what the search answers is what the lookup tells
pub returns-clause-answer_value : goal.returns-clause-answer_value
returns-clause-answer_value c =
    let s = c.args.file.now in
    let i = passed-layout (root_check s) _ (layout_of s) (Ok c.in_ok-l.l) c.in_ok-l.ensures refl in
    looked s _ _ _ _ _ i.0 i.1 c.search.ensures.result_value
