-- `id_list::id_at`: the four bytes of the id, highest first.
use mathlib.Core.Path.{◌≡◌, refl, ◌∙◌}
use mathlib.Core.List.{List, [], ◌∷◌}
use Prim.Native.Nat.{ℕ, ◌+◌, ◌*◌}
use native.Mathlib.Omega.{arith}
use mir.Syntax.{w32}
use Rattle.parts.specs.Part.{byte_at}
use Rattle.numbers.specs.Number.{big_at}
use Rattle.std.specs.Int.{from_be_bytes}
use Rattle.id_list.proofs.Laws.{id-is}
use Rattle.id_list.proofs.id_at.Goals as goal

pub returns : goal.returns
unfolding big_at
returns c =
    let ids = c.args.ids.now in
    let at : ℕ = 4 * c.args.i in
    let bytes : List ℕ = byte_at ids at ∷ byte_at ids (at + 1) ∷ byte_at ids (at + 2) ∷ byte_at ids (at + 3) ∷ [] in
    let n : from_be_bytes w32 bytes ≡ big_at bytes 0 4 = omega arith in
    id-is ids c.args.i at _ refl (c.from_be_bytes.ensures ∙ n)
