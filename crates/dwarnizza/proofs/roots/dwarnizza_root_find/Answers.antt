-- `dwarnizza::roots::dwarnizza_root_find`: the content key, which stays where none is found.
use mathlib.Core.Path.{◌∙◌}
use Rattle.dwarnizza.proofs.LentLaws.{key-lent}
use Rattle.dwarnizza.proofs.roots.dwarnizza_root_find.Goals as goal

pub returns-clause-key_after : goal.returns-clause-key_after
returns-clause-key_after c =
    c.tell_keyed.ensures.key_after
    ∙ key-lent c.args.file.now c.args.key.now c.lookup.result _ c.lookup.ensures.answer_value c.lookup.ensures.key_value
