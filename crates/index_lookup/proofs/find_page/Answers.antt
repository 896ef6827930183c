-- `index_lookup::find_page` meets its contract: the last keys stand one after the other.
use mathlib.Core.Path.{◌≡◌}
use Rattle.index_lookup.proofs.Laws.{page-halved}
use Rattle.index_lookup.proofs.find_page.Goals as goal

pub returns-clause-result_value : goal.returns-clause-result_value
returns-clause-result_value c =
    let a = c.args in
    let width : c.from.result ≡ a.l.key_length = c.from.ensures in
    page-halved _ _ a.l c.requires _ _ _ c.part-last_keys.ensures.result_value c.last_key_at.ensures (rw width at c.halve-halved.ensures.value)
