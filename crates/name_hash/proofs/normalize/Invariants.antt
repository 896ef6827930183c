-- `name_hash::normalize`: after i turns the first i bytes stand in front.
use Rattle.std.proofs.Common.{◌≡◌}
use lib.Seq.{paste}
use Rattle.name_hash.specs.NameHash.{normalized}
use Rattle.name_hash.proofs.normalize.Given as goal

abbrev pub invariant-loop-i : goal.invariant-loop-i
invariant-loop-i l = l.room ≡ paste l.initial.room 0 (normalized l.path) l.i
