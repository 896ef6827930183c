-- `md5_two::together`: the whole blocks of both, and the block of their padding.
use mathlib.Core.Path.{refl, ap, ap₂, ◌∙◌}
use mathlib.Core.List.{◌++◌}
use lib.ListN.{length}
use Rattle.md5_block.specs.Block.{whole}
use Rattle.md5_digest.specs.Message.{padding}
use Rattle.md5_two.specs.Two.{block_two, whole_two}
use Rattle.md5_two.proofs.TwoLaws.{end_whole}
use Rattle.md5_two.proofs.together.Goals as goal

pub returns : goal.returns
unfolding block_two whole_two
returns c =
    let a = c.args.a.now in
    let b = c.args.b.now in
    let p = c.requires in
    let k = c.addends-k in
    let e = c.blocks_two-e.ensures in
    let x = c.last_words-x.ensures in
    let r = c.block_two.ensures in record {
      first_value = end_whole k.result a _ (length a) _ _ _ refl p.1 (ap (λ w. w.first) e) x (ap (λ w. w.first) r)
          ∙ ap₂ (λ t w. whole t (a ++ padding (length a)) w) k.ensures c.initial.ensures;
      second_value = end_whole k.result b _ (length a) _ _ _ p.0 p.1 (ap (λ w. w.second) e) x (ap (λ w. w.second) r)
          ∙ ap₂ (λ t w. whole t (b ++ padding (length b)) w) k.ensures c.initial-2.ensures;
    }
