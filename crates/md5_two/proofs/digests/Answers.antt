-- `md5_two::digests`: both messages within the limit, hashed together.
use mathlib.Core.Path.{refl, ap, ◌∙◌}
use mathlib.Core.Bool.{not}
use lib.ListN.{length}
use Rattle.md5_two.proofs.TwoLaws.{within}
use Rattle.md5_two.proofs.digests.Goals as goal

pub returns-clause-first : goal.returns-clause-first
returns-clause-first c =
    let short = c.within_limit.ensures ∙ ap not c.if-not-within_limit.false in
    within (λ b. b) c.args.a.now _ (length c.args.a.now) _ refl short c.ended-w.ensures.first_value c.bytes.ensures

pub returns-clause-second : goal.returns-clause-second
returns-clause-second c =
    let short = c.within_limit.ensures ∙ ap not c.if-not-within_limit.false in
    within (λ b. b) c.args.b.now _ (length c.args.a.now) _ c.if-a-b.false short c.ended-w.ensures.second_value c.bytes-2.ensures
