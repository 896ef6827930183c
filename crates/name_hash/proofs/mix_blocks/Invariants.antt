-- `name_hash::mix_blocks`: after i turns the first i blocks are mixed.
use Rattle.std.proofs.Common.{◌≡◌}
use Rattle.name_hash.specs.Hashlittle.{mixed}
use Rattle.name_hash.proofs.mix_blocks.Given as goal

abbrev pub invariant-loop-i : goal.invariant-loop-i
invariant-loop-i l = l.w ≡ mixed l.count l.s l.i
