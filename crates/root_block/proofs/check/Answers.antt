-- `root_block::check`: whether it is cut, then its ids.
use mathlib.Core.Path.{sym, ap, ap₂, ◌∙◌}
use native.Mathlib.Nat.{le_of_eq}
use native.Mathlib.Omega.{arith}
use Rattle.root_block.specs.declared.Block.{Block}
use Rattle.root_block.specs.Ids.{ids_check}
use Rattle.root_block.specs.Block.{block_size}
use Rattle.root_block.proofs.Laws.{block-cut-short, block-whole, deltas-length}
use Rattle.root_block.proofs.check.Goals as goal

-- the bytes that the block takes is `block_size` of what its header says

pub returns-then-bytes-size : goal.returns-then-bytes-size
returns-then-bytes-size c =
    let whole = c.size.ensures ∙ ap (block_size c.args.l) c.read-block.ensures in
    rw c.at.ensures (sym (block-cut-short _ _ _ (omega arith)))

pub check_ids-requires : goal.check_ids-requires
check_ids-requires c =
    let whole = c.size.ensures ∙ ap (block_size c.args.l) c.read-block.ensures in
    rw (c.deltas.ensures, c.read-block.ensures) (le_of_eq (sym (deltas-length _ _ (omega arith))))

pub returns : goal.returns
returns c =
    let whole = c.size.ensures ∙ ap (block_size c.args.l) c.read-block.ensures in
    c.check_ids.ensures
    ∙ ap₂ (λ d (k : Block). ids_check d k.count c.args.place) c.deltas.ensures c.read-block.ensures
    ∙ sym (block-whole _ _ _ (omega arith))
