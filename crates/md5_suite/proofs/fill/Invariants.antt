-- `md5_suite::fill`: the bytes so far are those of the data.
use mathlib.Core.Path.{◌≡◌}
use lib.ListN.{take}
use Rattle.md5_suite.specs.Suite.{data_of}
use Rattle.md5_suite.proofs.fill.Given as goal

abbrev pub invariant-loop-i : goal.invariant-loop-i
invariant-loop-i l = take l.i l.to ≡ data_of l.i
