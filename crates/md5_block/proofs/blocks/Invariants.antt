-- `md5_block::blocks`: what is left to do after `at` bytes is the whole blocks of the rest.
use Rattle.std.proofs.Common.{◌≡◌, ◌-◌, ◌/◌, ◌≤◌, length, drop}
use Rattle.md5_block.specs.Block.{blocks}
use Rattle.md5_block.proofs.blocks.Given as goal

abbrev pub invariant-loop-at : goal.invariant-loop-at
invariant-loop-at l = (l.at ≤ length l.s) × (blocks l.k (length l.s / 64) l.s l.initial.e ≡ blocks l.k ((length l.s - l.at) / 64) (drop l.at l.s) l.e)

abbrev pub decreases-loop-at : goal.decreases-loop-at
decreases-loop-at l = length l.s - l.at
