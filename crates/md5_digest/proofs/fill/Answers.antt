-- `md5_digest::fill`: the zero_filled block, the whole blocks after it, and what is left.
use mathlib.Core.Path.{◌≡◌, sym}
use Prim.Native.Nat.{◌-◌, ◌%◌}
use lib.ListN.{length}
use lib.Seq.{length-take-le}
use Rattle.parts.proofs.Laws.{part_to_end}
use Rattle.md5_digest.proofs.MessageLaws.{absorb-long}
use borrow.Author.Rules.{rules}
use Rattle.md5_digest.proofs.fill.Lts as lts
use Rattle.md5_digest.proofs.fill.Tie as tie
use Rattle.md5_digest.proofs.fill.Goals as goal

pub slice_bounds-copy-end : goal.slice_bounds-copy-end
slice_bounds-copy-end c = sym (length-take-le _ _ c.requires.1)

pending-size : (start : lts.Start tie.the-claims tie.handed_pre tie.handed_post tie.handed_clauses) → length start.args.state.pending ≡ 64
pending-size start = search rules

pub returns : goal.returns
returns c =
    let start = c.before.before.before.before.before.before.before.before.before.before.before.before.before.before.before.before.before.before in
    let a = start.args in
    absorb-long a.state a.part.now (pending-size start) start.requires.1 _ _ _ _ _ _ c.addends-k.ensures c.copy.ensures
    (part_to_end (64 - a.state.count % 64) a.part.now) c.blocks-2.ensures c.blocks-words.ensures c.lay_rest.ensures.t_after
