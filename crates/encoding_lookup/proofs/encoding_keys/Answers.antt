-- `encoding_lookup::encoding_keys`: the told place is inside the file.
use mathlib.Core.Path.{ap}
use native.Mathlib.Omega.{arith}
use Rattle.encoding_lookup.specs.Lookup.{told_value, place_told, encoding_keys_at}
use Rattle.encoding_lookup.proofs.Inside.{content-inside}
use Rattle.encoding_lookup.proofs.encoding_keys.Goals as goal

pub returns-in-Ok-Some-clause-ref_ptr_value : goal.returns-in-Ok-Some-clause-ref_ptr_value
unfolding told_value encoding_keys_at
returns-in-Ok-Some-clause-ref_ptr_value c =
    let told = rw c.in-Ok-Some.field-0-is at c.in-Ok-Some.ensures in
    let at = c.part.ensures.ref_ptr_value in
    (at.0, omega (arith, at.1, ap place_told told, content-inside c.args.file.now c.args.key.now))
