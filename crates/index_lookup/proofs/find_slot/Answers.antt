-- `index_lookup::find_slot` meets its contract: a page's entries stand one after the other, each with its key first.
use native.Mathlib.Omega.{arith}
use Rattle.index_layout.proofs.Laws.{on-page-most}
use Rattle.index_lookup.proofs.Laws.{slot-halved}
use Rattle.index_lookup.proofs.find_slot.Goals as goal

pub overflow_cast-count : goal.overflow_cast-count
overflow_cast-count c =
    let a = c.args in
    record { fits = omega (arith, c.on_page-count.ensures, on-page-most a.l a.page.0) }

pub returns : goal.returns
returns c =
    let a = c.args in record {
      result_value = slot-halved _ _ a.l c.requires _ a.page.0 _ _ _ _ c.part-entries.ensures.result_value c.entry_at.ensures
          c.entry_size.ensures.value c.on_page-count.ensures c.halve-halved.ensures.value;
      compared_bound = c.halve-halved.ensures.count_bound;
    }
