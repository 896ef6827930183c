-- `md5_suite::in_parts`: the state stands for the bytes so far.
use mathlib.Core.Path.{ap, ◌∙◌}
use Prim.Native.Nat.{◌+◌, ◌≤◌}
use native.Mathlib.Omega.{arith}
use lib.ListN.{length}
use lib.Seq.{take_all}
use borrow.Author.Rules.{rules}
use Rattle.md5_digest.specs.Message.{state_after, finished}
use Rattle.md5_digest.proofs.Cutting.{fresh-is, state-end}
use Rattle.md5_suite.proofs.Laws.{part-more}
use Rattle.md5_suite.proofs.in_parts.Goals as goal

pub loop-at-init : goal.loop-at-init
loop-at-init c = (search rules, c.new-state.ensures ∙ fresh-is)

pub loop-at-preserved : goal.loop-at-preserved
loop-at-preserved c =
    let s = c.args.s.now in
    let l = c.loop-at in
    let u = c.update.ensures in
    let end = l.at + c.min.result in
    let inside : end ≤ length s = omega arith in
    (inside, part-more s _ _ _ l.at end (omega arith) inside c.requires.0 l.invariant.1 (record { said = u.check; after = u.state }))

pub returns : goal.returns
returns c =
    let s = c.args.s.now in
    let l = c.loop-at in
    c.finish.ensures ∙ ap finished (l.invariant.1 ∙ ap state_after (take_all l.at s c.loop-at-test.false)) ∙ state-end s
