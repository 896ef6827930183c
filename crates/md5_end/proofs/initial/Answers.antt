-- `md5_end::initial` is `initial`.
use mathlib.Core.Path.{refl}
use Rattle.md5_end.specs.End.{initial}
use Rattle.md5_end.proofs.initial.Goals as goal

pub returns : goal.returns
unfolding initial
returns c = refl
