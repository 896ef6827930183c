-- `key::eight_inside`: eight bytes, the highest first.
use mathlib.Core.Path.{◌∙◌}
use Rattle.key.proofs.Laws.{eight-read}
use Rattle.key.proofs.eight_inside.Goals as goal

pub returns : goal.returns
returns c = c.from_be_bytes.ensures ∙ eight-read c.args.s.now c.args.at
