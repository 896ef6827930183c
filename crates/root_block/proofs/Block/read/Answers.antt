-- `root_block::Block::read`: each field at its place.
use mathlib.Core.Path.{ap, ap₂, ◌∙◌}
use Prim.Native.Nat.{min}
use Rattle.numbers.specs.Number.{little_at}
use Rattle.root_layout.specs.Layout.{content_at}
use Rattle.root_block.specs.Block.{block_of}
use Rattle.root_block.proofs.Laws.{content-whole}
use Rattle.root_block.proofs.Block.read.Goals as goal

pub returns : goal.returns
unfolding block_of
returns c =
    let a = c.args in
    let p = c.word.ensures in
    let q = c.word-2.ensures ∙ ap (λ at. little_at a.bytes.now at 4) c.locale_at.ensures in
    let r =
    c.little.ensures
    ∙ ap₂ (λ at size. little_at a.bytes.now at (min size 8)) c.content_at.ensures c.content_size.ensures.value
    ∙ ap (little_at a.bytes.now (content_at a.l)) (content-whole a.l.wide_content) in
    λ i. record { count = p i; locale = q i; content = r i }
