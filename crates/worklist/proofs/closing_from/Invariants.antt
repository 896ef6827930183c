-- `worklist::closing_from`: a quote that waits, and what is left.
use mathlib.Core.Path.{◌≡◌}
use Prim.Native.Nat.{◌≤◌}
use mathlib.Core.Bool.{true}
use lib.ListN.{length, drop}
use Rattle.worklist.specs.Rows.{closing_from, closing_at}
use Rattle.worklist.proofs.closing_from.Given as goal

abbrev pub invariant-loop-at : goal.invariant-loop-at
invariant-loop-at l = record {
  left : closing_at l.text l.from ≡ closing_from l.pending l.at (drop l.at l.text);
  inside : l.pending ≡ true → l.at ≤ length l.text;
}
