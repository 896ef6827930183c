-- `dwarnizza::roots::dwarnizza_root_find_path`: the content key, which stays where none is found.
use mathlib.Core.Path.{◌∙◌}
use Rattle.dwarnizza.proofs.LentLaws.{path-key-lent}
use Rattle.dwarnizza.proofs.roots.dwarnizza_root_find_path.Goals as goal

pub returns-clause-key_after : goal.returns-clause-key_after
returns-clause-key_after c =
    c.tell_keyed.ensures.key_after
    ∙ path-key-lent c.args.file.now c.args.key.now c.find_path.result _ c.find_path.ensures.answer_value c.find_path.ensures.key_value
