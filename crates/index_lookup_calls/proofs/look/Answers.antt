-- `index_lookup_calls::look`: the full check's refusal for both, or the answers of the lookup and of the bound.
use mathlib.Core.Path.{◌∙◌}
use Rattle.index_layout.specs.Layout.{layout_of}
use Rattle.index_open.proofs.Laws.{passed-index, refused-index}
use Rattle.index.specs.Check.{full_check}
use Rattle.index_lookup_calls.proofs.Laws.{lookup-checked, bound-checked, lookup-refused, bound-refused, bound-told}
use Rattle.index_lookup_calls.proofs.look.Goals as goal

pub returns-in-Err : goal.returns-in-Err
returns-in-Err c =
    let a = c.args in
    let s = a.index.now in
    let k = a.key.now in
    let no = refused-index (full_check s) (layout_of s) c.check.result c.check.ensures c.in-Err.is in
    record { looked_value = lookup-refused s k _ _ no; most_value = bound-refused s k _ _ no; by_index = tt }

pub returns : goal.returns
returns c =
    let a = c.args in
    let s = a.index.now in
    let k = a.key.now in
    let yes = (passed-index (full_check s) _ (layout_of s) c.check.result c.check.ensures c.in_default.is).0 in
    let most = c.bound.ensures ∙ bound-checked s k yes in
    record { looked_value = c.lookup.ensures ∙ lookup-checked s k yes; most_value = most; by_index = bound-told s k _ most }
