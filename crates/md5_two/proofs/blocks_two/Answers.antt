-- `md5_two::blocks_two`: as `md5_block::blocks`, for each of the two messages.
use mathlib.Core.Path.{ap, ◌∙◌}
use native.Mathlib.Nat.{sub-zero}
use native.Mathlib.Omega.{arith}
use Rattle.parts.proofs.Laws.{part_to_end}
use Rattle.md5_block.specs.Block.{words_of}
use Rattle.md5_block.proofs.BlockLaws.{one_block, no_block}
use Rattle.md5_two.specs.Two.{block_two, whole_two}
use Rattle.md5_two.proofs.TwoLaws.{paired}
use borrow.Author.Rules.{rules}
use Rattle.md5_two.proofs.blocks_two.Goals as goal

pub loop-at-init : goal.loop-at-init
loop-at-init c = (search rules, rw sub-zero, rw sub-zero)

pub loop-at-preserved : goal.loop-at-preserved
unfolding block_two
loop-at-preserved c =
    let a = c.args in
    let l = c.loop-at in
    let test = c.loop-at-test.true in
    let s-words = c.block_words-x.ensures ∙ ap (words_of 16) (part_to_end l.at a.s.now) in
    let t-words = c.block_words-y.ensures ∙ ap (words_of 16) (part_to_end l.at a.t.now) in
    let both = c.block_two-e.ensures in (
      search rules,
      one_block a.k.now a.s.now l.at _ l.e.first _ _ test l.invariant.1 s-words (ap (λ w. w.first) both),
      one_block a.k.now a.t.now l.at _ l.e.second _ _ (omega (arith, c.requires, test)) l.invariant.2 t-words (ap (λ w. w.second) both),
    )

pub returns : goal.returns
unfolding whole_two
returns c =
    let l = c.loop-at in
    let a = c.args in
    let same = c.requires in
    paired (no_block a.k.now a.s.now l.at l.e.first _ c.loop-at-test.false l.invariant.1)
    (no_block a.k.now a.t.now l.at l.e.second _ (omega (arith, same, c.loop-at-test.false)) l.invariant.2)
