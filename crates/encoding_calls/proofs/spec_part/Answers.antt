-- `encoding_calls::spec_part`: nothing after a refusal, or the string that stands at the told place.
use mathlib.Core.Path.{ap, ◌∙◌}
use Prim.Native.Nat.{◌+◌}
use native.Mathlib.Omega.{arith}
use Rattle.encoding_calls.proofs.Laws.{spec-part-found, spec-place-found, spec-part-none, spec-place-none}
use Rattle.encoding_calls.proofs.spec_part.Goals as goal

pub returns-in-Ok : goal.returns-in-Ok
returns-in-Ok c =
    let a = c.args in
    let at = c.spec_string.ensures.ref_ptr_value in record {
      result_value = c.spec_string.ensures.result_value ∙ spec-part-found a.file.now a.number _ _ c.in-Ok.ensures;
      ref_ptr_value = (at.0, at.1 ∙ ap (λ p. a.file.ref_ptr.1 + p) (spec-place-found a.file.now a.number _ _ c.in-Ok.ensures));
    }

pub returns-in-Err : goal.returns-in-Err
returns-in-Err c =
    let a = c.args in
    let at = c.part.ensures.ref_ptr_value in record {
      result_value = c.part.ensures.result_value ∙ spec-part-none a.file.now a.number _ _ c.in-Err.ensures;
      ref_ptr_value = (at.0, omega (arith, at.1, spec-place-none a.file.now a.number _ _ c.in-Err.ensures));
    }
