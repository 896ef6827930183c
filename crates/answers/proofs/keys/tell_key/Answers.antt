-- `answers::keys::tell_key`: the key's bytes over those lent, which a refusal leaves.
use mathlib.Core.Path.{◌≡◌, ap, ◌∙◌}
use native.Mathlib.Nat.{zero-add}
use native.Mathlib.Omega.{arith}
use lib.ListN.{length}
use borrow.Author.Rules.{rules}
use Rattle.parts.specs.Part.{part_at, overlay}
use Rattle.parts.proofs.Laws.{part_at-length, overlay-inside}
use Rattle.refusal.specs.Output.{filled}
use Rattle.answers.proofs.keys.tell_key.Goals as goal

pub returns-in-Err-clause-key_after : goal.returns-in-Err-clause-key_after
unfolding filled
returns-in-Err-clause-key_after c = rw c.in-Err.is

pub returns-in-Ok-clause-key_after : goal.returns-in-Ok-clause-key_after
unfolding filled
returns-in-Ok-clause-key_after c =
    let key = c.args.key.now in
    let bytes = c.in-Ok.bytes in
    let k = c.args.length in
    let room : length key ≡ 16 = search rules in
    let size : length bytes ≡ 16 = search rules in
    let laid = c.part.ensures.result_value ∙ ap (part_at bytes 0) c.from.ensures in
    rw c.in-Ok.is (c.copy.ensures ∙ ap (overlay key 0) laid
    ∙ overlay-inside key 0 (part_at bytes 0 k) (omega (arith, part_at-length bytes 0 k)) ∙ rw zero-add)
