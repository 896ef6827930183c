-- `md5_end::end`: one block after the whole ones or two, by the room that is left for the length.
use mathlib.Core.Path.{◌≡◌, refl, ap, ◌∙◌}
use mathlib.Core.List.{◌++◌}
use Prim.Native.Nat.{◌%◌, ◌<◌}
use native.Mathlib.Omega.{arith}
use lib.ListN.{length}
use Rattle.md5_block.specs.Block.{addends, whole}
use Rattle.md5_end.specs.End.{padded, zeros, rest}
use Rattle.md5_end.proofs.EndLaws.{rest-length, marked, end-one, end-two}
use Rattle.md5_end.proofs.end.Lts as lts
use Rattle.md5_end.proofs.end.Tie as tie
use Rattle.md5_end.proofs.end.Goals as goal

-- ---- the rest of the message is laid

abbrev Laid : Type 0
Laid = lts.After-blocks2 tie.the-claims tie.handed_pre tie.handed_post tie.handed_clauses

abbrev start-at : Laid → lts.Start tie.the-claims tie.handed_pre tie.handed_post tie.handed_clauses
start-at b = b.before.before.before.before.before.before

addends-at : (b : Laid) → b.addends-k.result ≡ addends
addends-at b = b.addends-k.ensures

pub returns-then-n-lt56 : goal.returns-then-n-lt56
returns-then-n-lt56 c =
    let b = c.before.before.before.before.before.before.before.before.before in
    let a = (start-at b).args in
    let s = a.s.now in
    let below : length s % 64 < 64 = omega arith in
    let t = marked (rest s) _ _ (length s % 64) (rest-length s) below b.lay_rest.ensures.t_after refl in
    end-one _ s _ _ _ a.count (length s % 64) a.w _ _ refl c.if-n-lt56.true t c.put_length.ensures.t_after c.block_words-x.ensures
    b.blocks-e.ensures c.block.ensures
    ∙ ap (λ k. whole k (s ++ padded (zeros (length s)) a.count) a.w) (addends-at b)

pub returns : goal.returns
returns c =
    let b = c.before.before.before.before.before in
    let a = (start-at b).args in
    let s = a.s.now in
    let below : length s % 64 < 64 = omega arith in
    let t = marked (rest s) _ _ (length s % 64) (rest-length s) below b.lay_rest.ensures.t_after refl in
    end-two _ s _ a.count (length s % 64) a.w _ _ refl c.if-n-lt56.false t b.blocks-e.ensures c.last_two.ensures
    ∙ ap (λ k. whole k (s ++ padded (zeros (length s)) a.count) a.w) (addends-at b)
