-- `parts::equal`: the comparison of std.
use mathlib.Core.Path.{◌∙◌}
use Rattle.parts.proofs.Laws.{compared-same}
use Rattle.parts.proofs.equal.Goals as goal

pub returns : goal.returns
returns c = c.eq.ensures ∙ compared-same c.args.a.now c.args.b.now
