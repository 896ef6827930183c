-- `index::pages::padding_zero`: the bytes after the entries.
use Prim.Native.Nat.{◌*◌, ◌≤◌}
use native.Mathlib.Omega.{arith}
use Rattle.index_layout.proofs.Laws.{on-page-most, on-page-fits}
use Rattle.index.proofs.pages.padding_zero.Goals as goal

pub overflow_cast-count : goal.overflow_cast-count
overflow_cast-count c =
    let a = c.args in
    omega (arith, on-page-most a.l a.page.0)

pub overflow_mul-count : goal.overflow_mul-count
overflow_mul-count c =
    let a = c.args in
    let fits : c.on_page-count.result * c.entry_size.result ≤ 4096 =
    rw (c.on_page-count.ensures, c.entry_size.ensures.value) (on-page-fits a.l a.page.0) in
    omega arith

pub overflow_sub-count : goal.overflow_sub-count
overflow_sub-count c =
    let a = c.args in
    rw (c.on_page-count.ensures, c.entry_size.ensures.value) (on-page-fits a.l a.page.0)
