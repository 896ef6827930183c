-- `rising::skip`: up to key i each key is above the one before by its first eight bytes.
use mathlib.Core.Path.{◌≡◌}
use Prim.Native.Nat.{◌-◌, ◌*◌}
use Rattle.numbers.specs.Number.{big_at}
use Rattle.rising.specs.Fall.{fall_from}
use Rattle.rising.proofs.skip.Given as goal

abbrev pub invariant-loop-i : goal.invariant-loop-i
invariant-loop-i l =
    (l.at ≡ l.i * l.stride) × (l.before ≡ big_at l.keys ((l.i - 1) * l.stride) 8)
    × (fall_from l.keys l.stride l.width l.from (l.count - l.from) ≡ fall_from l.keys l.stride l.width l.i (l.count - l.i))
