-- `md5_calls::digest_of_parts`: what is left is taken, so the whole is within the limit, and the state ends in its digest.
use mathlib.Core.Path.{ap, ◌∙◌}
use Rattle.refusal.specs.Number.{hash_limit}
use Rattle.refusal.proofs.Laws.{silent-test, passed_is}
use Rattle.md5_digest.specs.Message.{limited}
use Rattle.md5_calls.proofs.Laws.{whole, digest}
use Rattle.md5_calls.proofs.digest_of_parts.Goals as goal

pub returns-clause-bytes : goal.returns-clause-bytes
returns-clause-bytes c =
    let m = c.args.message.now in
    let u = c.update-taken in
    let all = whole m _ _ _ c.hash_parts-state.ensures c.part-rest.ensures.result_value u.ensures.state in
    let fits = silent-test _ hash_limit 0 (passed_is _ _ (u.ensures.check ∙ ap limited all) c.in_ok-taken.was) in
    c.finish.ensures ∙ digest m _ _ _ c.hash_parts-state.ensures c.part-rest.ensures.result_value u.ensures.state fits
