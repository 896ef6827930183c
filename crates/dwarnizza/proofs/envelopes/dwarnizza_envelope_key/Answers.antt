-- `dwarnizza::envelopes::dwarnizza_envelope_key`: the key, which a refusal leaves.
use mathlib.Core.Path.{◌∙◌}
use Rattle.dwarnizza.proofs.LentLaws.{told-lent}
use Rattle.dwarnizza.proofs.envelopes.dwarnizza_envelope_key.Goals as goal

pub returns-clause-key_after : goal.returns-clause-key_after
returns-clause-key_after c =
    c.tell_sixteen.ensures.lent_after
    ∙ told-lent c.envelope_key.result _ _ c.args.key.now c.envelope_key.ensures.check c.envelope_key.ensures.bytes
