-- `worklist_joined::put`: a separator, and a field behind it.
use mathlib.Core.Path.{ap, ap₂, ◌∙◌}
use Prim.Native.Nat.{◌+◌}
use native.Mathlib.Omega.{arith}
use lib.ListN.{length}
use Rattle.parts.specs.Part.{overlay}
use Rattle.worklist_joined.proofs.put.Goals as goal

pub overflow_add-result-2 : goal.overflow_add-result-2
overflow_add-result-2 c =
    omega (arith, c.requires.1, ap length c.field_part-field.ensures.value)

pub returns : goal.returns
returns c =
    let a = c.args in
    record {
      value = ap (λ b. a.to + (1 + length b)) c.field_part-field.ensures.value;
      output_after = c.copy-2.ensures ∙ ap₂ (λ o b. overlay o (a.to + 1) b) c.copy.ensures c.field_part-field.ensures.value;
    }
