-- `index::footer`: the last 28 bytes.
use mathlib.Core.Path.{ap, ◌∙◌}
use Prim.Native.Nat.{◌-◌}
use native.Mathlib.Omega.{arith}
use lib.ListN.{length, length-drop}
use Rattle.parts.proofs.Laws.{part_to_end}
use Rattle.index_open.proofs.footer.Goals as goal

pub returns : goal.returns
returns c =
    let s = c.args.index.now in
    let rest = part_to_end (length s - 28) s in
    record { result_value = rest; result_len = ap length rest ∙ length-drop (length s - 28) s ∙ omega arith }
