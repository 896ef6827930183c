-- `worklist::stop_from`: no byte that was passed stops.
use mathlib.Core.Path.{◌≡◌}
use Prim.Native.Nat.{◌≤◌}
use lib.ListN.{length}
use Rattle.worklist.specs.Rows.{stop_at}
use Rattle.worklist.proofs.stop_from.Given as goal

abbrev pub invariant-loop-at : goal.invariant-loop-at
invariant-loop-at l = record {
  left : stop_at l.separator l.text l.from ≡ stop_at l.separator l.text l.at;
  past : length l.text ≤ l.from → l.at ≡ l.from;
}
