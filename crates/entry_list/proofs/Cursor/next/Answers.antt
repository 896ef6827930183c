-- `entry_list::Cursor::next`: a page has few enough entries for the next slot's number.
use native.Mathlib.Omega.{arith}
use Rattle.index_layout.proofs.Laws.{on-page-most}
use Rattle.entry_list.proofs.Cursor.next.Goals as goal

pub overflow_add-result : goal.overflow_add-result
overflow_add-result c = record { fits = omega (arith, c.on_page.ensures, on-page-most c.args.l c.args.self.page.0) }
