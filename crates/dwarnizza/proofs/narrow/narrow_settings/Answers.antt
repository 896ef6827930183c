-- `dwarnizza::narrow::narrow_settings`: each number by `narrow`.
use Rattle.dwarnizza.specs.Indexes.{settings_from}
use Rattle.dwarnizza.proofs.narrow.narrow_settings.Goals as goal

pub returns : goal.returns
returns c = λ i. settings_from (c.narrow-v.ensures i) (c.narrow-w.ensures i) (c.narrow-k.ensures i)
