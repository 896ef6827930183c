-- `md5_block::blocks`: what is left to do after `at` bytes is the whole blocks of the rest.
use Rattle.std.proofs.Common.{ap, ◌∙◌, rules}
use native.Mathlib.Nat.{sub-zero}
use Rattle.parts.proofs.Laws.{part_to_end}
use Rattle.md5_block.specs.Block.{words_of}
use Rattle.md5_block.proofs.BlockLaws.{one_block, no_block}
use Rattle.md5_block.proofs.blocks.Goals as goal

pub loop-at-init : goal.loop-at-init
loop-at-init c = (search rules, rw sub-zero)

pub loop-at-preserved : goal.loop-at-preserved
loop-at-preserved c =
    let l = c.loop-at in
    let a = c.args in
    let s = a.s.now in (
      search rules,
      one_block a.k.now s l.at _ l.e _ _ c.loop-at-test.true l.invariant.1
          (c.block_words-x.ensures ∙ ap (words_of 16) (part_to_end l.at s)) c.block-e.ensures,
    )

pub returns : goal.returns
returns c =
    let a = c.args in
    let l = c.loop-at in
    no_block a.k.now a.s.now l.at l.e _ c.loop-at-test.false l.invariant.1
