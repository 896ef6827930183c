-- `index_file::list_at`: entries before it times the bytes of each.
use native.Mathlib.Omega.{arith}
use Rattle.index_layout.specs.Layout.{full}
use Rattle.index_layout.proofs.Laws.{bound, full-most}
use Rattle.index_file.proofs.list_at.Goals as goal

pub overflow_mul-result : goal.overflow_mul-result
overflow_mul-result c =
    let l = c.args.l in
    let most = bound c.args.page.0 (full l) 4294967295 1024 (omega arith) (full-most l) in
    let number = c.placed_number in
    omega (arith, bound number.result c.entry_size.result 4402341477375 514 (omega (arith, most, number.ensures)) (omega arith))
