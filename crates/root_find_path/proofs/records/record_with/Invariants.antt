-- `root_find_path::records::record_with`: no record before the one at hand has the name hash.
use mathlib.Core.Path.{◌≡◌}
use Prim.Native.Nat.{ℕ, ◌<◌}
use Rattle.root_find_path.specs.Records.{hash_of}
use Rattle.root_find_path.proofs.records.record_with.Given as goal

abbrev pub invariant-loop-i : goal.invariant-loop-i
invariant-loop-i l = (j : ℕ) → j < l.i → hash_of l.bytes l.l l.block j ≡ l.hash → ⊥
