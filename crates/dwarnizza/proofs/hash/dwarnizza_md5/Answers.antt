-- `dwarnizza::hash::dwarnizza_md5`: the digest, which a refusal leaves.
use mathlib.Core.Path.{◌∙◌}
use Rattle.dwarnizza.proofs.LentLaws.{told-lent, digest-lent}
use Rattle.dwarnizza.proofs.hash.dwarnizza_md5.Goals as goal

pub returns-clause-digest_after : goal.returns-clause-digest_after
returns-clause-digest_after c =
    c.tell_sixteen.ensures.lent_after
    ∙ told-lent c.digest.result _ _ c.args.digest.now c.digest.ensures.check c.digest.ensures.bytes ∙ digest-lent _ _ c.args.digest.now
