-- `md5_two::blocks_two`: as `md5_block::blocks`, for each of the two messages.
use mathlib.Core.Path.{◌≡◌}
use Prim.Native.Nat.{◌-◌, ◌/◌, ◌≤◌}
use lib.ListN.{length, drop}
use Rattle.md5_block.specs.Block.{blocks}
use Rattle.md5_two.proofs.blocks_two.Given as goal

abbrev pub invariant-loop-at : goal.invariant-loop-at
invariant-loop-at l =
    (l.at ≤ length l.s) × (blocks l.k (length l.s / 64) l.s l.initial.e.first ≡ blocks l.k ((length l.s - l.at) / 64) (drop l.at l.s) l.e.first)
    × (blocks l.k (length l.t / 64) l.t l.initial.e.second ≡ blocks l.k ((length l.t - l.at) / 64) (drop l.at l.t) l.e.second)

abbrev pub decreases-loop-at : goal.decreases-loop-at
decreases-loop-at l = length l.s - l.at
