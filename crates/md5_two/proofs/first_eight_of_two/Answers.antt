-- `md5_two::first_eight_of_two`: both messages within the limit, hashed together.
use mathlib.Core.Path.{refl, ap, ◌∙◌}
use mathlib.Core.Bool.{not}
use lib.ListN.{length, take}
use Rattle.md5_two.proofs.TwoLaws.{within}
use Rattle.md5_two.proofs.first_eight_of_two.Goals as goal

pub returns-clause-first : goal.returns-clause-first
returns-clause-first c =
    let short = c.within_limit.ensures ∙ ap not c.if-not-within_limit.false in
    within (take 8) c.args.a.now _ (length c.args.a.now) _ refl short c.together-w.ensures.first_value c.eight.ensures

pub returns-clause-second : goal.returns-clause-second
returns-clause-second c =
    let short = c.within_limit.ensures ∙ ap not c.if-not-within_limit.false in
    within (take 8) c.args.b.now _ (length c.args.a.now) _ c.if-n-b.false short c.together-w.ensures.second_value c.eight-2.ensures
