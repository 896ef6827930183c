-- `dwarnizza::hash::dwarnizza_md5_update`: a refused part is past the limit, and leaves the state.
use mathlib.Core.Path.{sym, ap, ◌∙◌}
use Prim.Native.Nat.{◌+◌}
use lib.ListN.{length}
use Rattle.refusal.specs.Check.{check_of}
use Rattle.refusal.specs.Number.{hash_limit}
use Rattle.refusal.proofs.Laws.{refused-test}
use Rattle.md5_digest.specs.Message.{is_too_long, limited}
use Rattle.dwarnizza.proofs.hash.dwarnizza_md5_update.Goals as goal

pub returns-in-Err-clause-words_after : goal.returns-in-Err-clause-words_after
returns-in-Err-clause-words_after c =
    let n = length c.args.part.now in
    let told = sym (ap check_of c.in-Err.is) ∙ c.update-taken.ensures.check ∙ ap (λ s. limited (s.count + n)) c.state.ensures in
    rw (refused-test (is_too_long (c.args.count.now + n)) hash_limit 0 _ _ (sym told))

pub returns-in-Err-clause-pending_after : goal.returns-in-Err-clause-pending_after
returns-in-Err-clause-pending_after c =
    let n = length c.args.part.now in
    let told = sym (ap check_of c.in-Err.is) ∙ c.update-taken.ensures.check ∙ ap (λ s. limited (s.count + n)) c.state.ensures in
    rw (refused-test (is_too_long (c.args.count.now + n)) hash_limit 0 _ _ (sym told))

pub returns-in-Err-clause-count_after : goal.returns-in-Err-clause-count_after
returns-in-Err-clause-count_after c =
    let n = length c.args.part.now in
    let told = sym (ap check_of c.in-Err.is) ∙ c.update-taken.ensures.check ∙ ap (λ s. limited (s.count + n)) c.state.ensures in
    rw (refused-test (is_too_long (c.args.count.now + n)) hash_limit 0 _ _ (sym told))
