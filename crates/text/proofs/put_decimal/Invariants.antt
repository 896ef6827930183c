-- `text::put_decimal`: the digits so far, after those of the rest.
use mathlib.Core.Path.{◌≡◌}
use mathlib.Core.List.{◌++◌}
use Prim.Native.Nat.{◌+◌, ◌^◌, ◌<◌}
use lib.ListN.{length, drop}
use Rattle.text.specs.Text.{decimal_digits, decimal}
use Rattle.text.proofs.put_decimal.Given as goal

abbrev pub invariant-loop-rest : goal.invariant-loop-rest
invariant-loop-rest l =
    (l.first < 20) × (length l.digits ≡ 20) × (l.rest < 10 ^ (l.first + 1)) × (decimal l.n ≡ decimal_digits (l.first + 1) l.rest ++ drop (l.first + 1) l.digits)

abbrev pub decreases-loop-rest : goal.decreases-loop-rest
decreases-loop-rest l = l.first
