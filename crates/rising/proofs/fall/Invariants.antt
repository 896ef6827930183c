-- `rising::fall`: before key i none fell.
use mathlib.Core.Path.{◌≡◌}
use Prim.Native.Nat.{◌-◌, ◌≤◌}
use Rattle.rising.specs.Fall.{fall_from}
use Rattle.rising.proofs.fall.Given as goal

abbrev pub invariant-loop-i : goal.invariant-loop-i
invariant-loop-i l =
    (1 ≤ l.i) × (fall_from l.keys l.stride l.width 1 (l.count - 1) ≡ fall_from l.keys l.stride l.width l.i (l.count - l.i))

abbrev pub decreases-loop-i : goal.decreases-loop-i
decreases-loop-i l = l.count - l.i
