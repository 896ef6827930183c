-- `md5_end::last_two`: a block, and the block of the length.
use mathlib.Core.Path.{ap, ap₂, ◌∙◌}
use Rattle.md5_block.specs.Block.{block}
use Rattle.md5_end.proofs.last_two.Goals as goal

pub returns : goal.returns
returns c =
    let a = c.args in
    let first = c.block-e.ensures ∙ ap (λ x. block a.k.now x a.w) c.block_words-x.ensures in
    c.block.ensures ∙ ap₂ (block a.k.now) c.last_words-y.ensures first
