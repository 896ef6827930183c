-- `key_text::read`: the digits passed are digits, and the bytes that they tell stand over the zeros.
use mathlib.Core.Path.{◌≡◌}
use Prim.Native.Nat.{◌*◌}
use Rattle.key_text.proofs.Laws.{Digits, over}
use Rattle.key_text.proofs.read.Given as goal

abbrev pub invariant-loop-at : goal.invariant-loop-at
invariant-loop-at l = record { digits : Digits l.text (2 * l.at); told : l.bytes ≡ over l.text l.at }
