-- `index_file::entries_size`: a page has room for its entries.
use Prim.Native.Nat.{◌*◌, ◌≤◌}
use native.Mathlib.Omega.{arith}
use Rattle.index_layout.specs.Layout.{page_size}
use Rattle.index_layout.proofs.Laws.{placed-fits}
use Rattle.index_file.proofs.entries_size.Goals as goal

pub overflow_mul-result : goal.overflow_mul-result
overflow_mul-result c =
    let fits : c.placed_on.result * c.entry_size.result ≤ page_size = rw (c.placed_on.ensures, c.entry_size.ensures.value) (placed-fits c.args.l c.args.page.0) in
    omega arith

pub returns-clause-upper_bound : goal.returns-clause-upper_bound
returns-clause-upper_bound c = rw (c.placed_on.ensures, c.entry_size.ensures.value) (placed-fits c.args.l c.args.page.0)
