-- `index_layout::Layout::last_slot`: one less than the page's entries.
use native.Mathlib.Omega.{arith}
use Rattle.index_layout.proofs.Laws.{on-page-most}
use Rattle.index_layout.proofs.Layout.last_slot.Goals as goal

pub overflow_cast-on_page : goal.overflow_cast-on_page
overflow_cast-on_page c = omega (arith, on-page-most c.args.self c.args.page.0)
