-- `list_index::input_room`: the length by a law, since a list so long is not to be computed.
use mathlib.Core.Path.{sym}
use Prim.Native.Nat.{ℕ}
use lib.ListN.{length-replicate}
use Rattle.list_index.proofs.input_room.Goals as goal

pub returns : goal.returns
returns c = sym (length-replicate {A = ℕ} 65537 0)
