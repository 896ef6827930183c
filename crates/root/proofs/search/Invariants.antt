-- `root::search`: the walk, with the records of the blocks that are left; in a block, the records that are left.
use mathlib.Core.Path.{◌≡◌}
use Prim.Native.Nat.{◌-◌}
use Rattle.std.specs.Prelude.{None}
use lib.ListN.{length}
use Rattle.root.specs.Lookup.{wanted}
use Rattle.root.proofs.Walk.{Walk}
use Rattle.root.proofs.First.{Passing, Unsearched}
use Rattle.root.proofs.search.Given as goal

abbrev pub invariant-loop-i : goal.invariant-loop-i
invariant-loop-i l = (l.found ≡ None) × Passing l.file l.l (wanted l.id l.locale l.unwanted) l.at l.block.count l.i l.last

abbrev pub invariant-blocks-2 : goal.invariant-blocks-2
invariant-blocks-2 l = (l.found ≡ None) × Walk l.file l.l (Unsearched l.file l.l (wanted l.id l.locale l.unwanted)) l.at

abbrev pub decreases-blocks-2 : goal.decreases-blocks-2
decreases-blocks-2 l = length l.file - l.at
