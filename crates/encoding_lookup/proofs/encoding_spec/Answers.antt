-- `encoding_lookup::encoding_spec`: the told place is inside the file.
use mathlib.Core.Path.{ap}
use native.Mathlib.Omega.{arith}
use Rattle.encoding_lookup.specs.Lookup.{told_value, place_told, encoding_spec_at}
use Rattle.encoding_lookup.proofs.Inside.{encoding-inside}
use Rattle.encoding_lookup.proofs.encoding_spec.Goals as goal

pub returns-in-Ok-Some-clause-ref_ptr_value : goal.returns-in-Ok-Some-clause-ref_ptr_value
unfolding told_value encoding_spec_at
returns-in-Ok-Some-clause-ref_ptr_value c =
    let told = rw c.in-Ok-Some.field-0-is at c.in-Ok-Some.ensures in
    let at = c.part.ensures.ref_ptr_value in
    (at.0, omega (arith, at.1, ap place_told told, encoding-inside c.args.file.now c.args.key.now))
