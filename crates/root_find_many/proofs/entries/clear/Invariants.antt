-- `root_find_many::entries::clear`: one entry of zeros more at each turn.
use mathlib.Core.Path.{◌≡◌}
use Rattle.parts.specs.Part.{overlay, parts_from}
use Rattle.root_find_many.proofs.Laid.{blank}
use Rattle.root_find_many.proofs.entries.clear.Given as goal

abbrev pub invariant-loop-i : goal.invariant-loop-i
invariant-loop-i l = l.output ≡ overlay l.initial.output 0 (parts_from blank 0 l.i)
