-- `md5_block::words_inside`: after i turns the first i words stand in the array.
use Rattle.std.proofs.Common.{◌≡◌, ◌≤◌, length, take}
use Rattle.md5_block.specs.Block.{words_of}
use Rattle.md5_block.proofs.words_inside.Given as goal

abbrev pub invariant-loop-i : goal.invariant-loop-i
invariant-loop-i l = (l.i ≤ 16) × (length l.x ≡ 16) × (take l.i l.x ≡ words_of l.i l.s)
