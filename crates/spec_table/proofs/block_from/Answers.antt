-- `spec_table::block_from`: it has a byte, and ends in the table.
use mathlib.Core.Path.{◌≡◌, ap, ◌∙◌}
use Prim.Native.Nat.{◌-◌, min}
use native.Mathlib.Omega.{arith}
use lib.ListN.{length}
use Rattle.parts.proofs.Laws.{part_at-length}
use Rattle.spec_table.proofs.Laws.{own-part}
use borrow.Author.Rules.{rules}
use Rattle.spec_table.proofs.block_from.Goals as goal

pub returns : goal.returns
returns c =
    let a = c.args in
    let block = c.part.result.now in
    let long : length block ≡ min 1024 (length a.table.now - a.at) = ap length c.part.ensures.result_value ∙ part_at-length a.table.now a.at 1024 in
    record { result_value = own-part a.table.now a.at 1024 block (search rules) c.part.ensures.result_value; result_nonzero = omega arith }
