-- `root_block::ids::delta`: two's complement, lowest byte first.
use mathlib.Core.Path.{◌≡◌, ap, ◌∙◌}
use mathlib.Core.List.{List, [], ◌∷◌}
use Prim.Native.Nat.{ℕ, ◌<◌, ◌^◌}
use native.Mathlib.Omega.{arith}
use mir.Syntax.{w32}
use mir.Val.{to_z}
use mir.Facts.{to_z-of_z}
use Rattle.numbers.specs.Number.{little_at}
use Rattle.std.specs.Int.{from_le_bytes}
use Rattle.root_block.proofs.Signed.{signed-is}
use Rattle.root_block.proofs.ids.delta.Goals as goal

pub returns : goal.returns
unfolding little_at
returns c =
    let bytes : List ℕ = c.args.a ∷ c.args.b ∷ c.args.c ∷ c.args.d ∷ [] in
    let n : from_le_bytes w32 bytes ≡ little_at bytes 0 4 = omega arith in
    let small : little_at bytes 0 4 < 2 ^ 32 = omega (arith, c.ranges) in
    to_z-of_z {w = w32} (record { sfits = c.from_le_bytes.type_inv })
    ∙ c.from_le_bytes.ensures ∙ ap (to_z w32) n ∙ signed-is _ small
