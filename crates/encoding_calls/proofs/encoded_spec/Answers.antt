-- `encoding_calls::encoded_spec`: nothing after a refusal of the full check, or the part that the lookup tells.
use mathlib.Core.Path.{sym, ap, ◌∙◌}
use Prim.Native.Nat.{◌+◌}
use native.Mathlib.Omega.{arith}
use Rattle.encoding_lookup.specs.Lookup.{told_value, place_told, part_told, encoding_spec, encoding_spec_at}
use Rattle.encoding_calls.proofs.Laws.{encoding_checked, encoding-refused}
use Rattle.encoding_calls.proofs.encoded_spec.Goals as goal

pub returns-in-Ok : goal.returns-in-Ok
unfolding encoding_spec encoding_spec_at
returns-in-Ok c =
    let a = c.args in
    let told = encoding_checked a.file.now a.key.now (sym c.in-Ok.ensures) in
    let at = c.encoding_spec.ensures.ref_ptr_value in record {
      result_value = c.encoding_spec.ensures.result_value ∙ ap (part_told a.file.now) told;
      ref_ptr_value = (at.0, at.1 ∙ ap (λ o. a.file.ref_ptr.1 + place_told o) told);
    }

pub returns-in-Err : goal.returns-in-Err
unfolding told_value
returns-in-Err c =
    let a = c.args in
    let told = encoding-refused a.file.now a.key.now _ _ (sym c.in-Err.ensures) in
    let at = c.part.ensures.ref_ptr_value in
    record { result_value = c.part.ensures.result_value ∙ ap (part_told a.file.now) told; ref_ptr_value = (at.0, omega (arith, at.1, ap place_told told)) }
