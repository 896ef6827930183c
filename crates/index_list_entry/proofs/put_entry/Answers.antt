-- `index_list_entry::put_entry`: refused, or the bytes of the entry.
use mathlib.Core.Path.{sym, ap, ◌∙◌}
use mathlib.Core.List.{◌∷◌, []}
use Prim.Native.Nat.{◌+◌, ◌*◌, ◌^◌}
use native.Mathlib.Omega.{arith}
use lib.ListN.{length}
use Rattle.refusal.specs.Check.{silent}
use Rattle.refusal.specs.Outcome.{answered}
use Rattle.refusal.specs.Output.{filled}
use Rattle.refusal.proofs.Laws.{after-quiet}
use Rattle.index_list_entry.specs.Put.{location_of, entry_bytes}
use Rattle.index_list_entry.proofs.Laws.{fits}
use Rattle.index_list_entry.proofs.put_entry.Goals as goal

pub returns-in_err-judge-clause-output_after : goal.returns-in_err-judge-clause-output_after
unfolding filled
returns-in_err-judge-clause-output_after c =
    let a = c.args in
    let bytes = entry_bytes a.settings.offset_width a.key.now a.size (location_of a.archive a.offset) in
    ap (λ k. filled k bytes a.output.now) c.in_err-judge.ensures

pub overflow_add-location : goal.overflow_add-location
overflow_add-location c =
    let a = c.args in
    let f = fits a.settings a.key.now a.archive a.offset (length a.output.now) (sym c.in_ok-judge.ensures) in
    omega (arith, f.archive-low, f.offset-low)

pub fill-requires : goal.fill-requires
fill-requires c =
    let a = c.args in
    let f = fits a.settings a.key.now a.archive a.offset (length a.output.now) (sym c.in_ok-judge.ensures) in
    (f.width, f.short, omega (arith, f.bytes, f.holds))

pub returns : goal.returns
unfolding location_of
returns c =
    let a = c.args in
    let e = sym c.in_ok-judge.ensures in
    let f = fits a.settings a.key.now a.archive a.offset (length a.output.now) e in
    let bytes = entry_bytes a.settings.offset_width a.key.now a.size (location_of a.archive a.offset) in
    let location = ap (λ n. entry_bytes a.settings.offset_width a.key.now a.size (n * 2 ^ 32 + a.offset)) c.from.ensures in
    record {
      result_value = ap (λ n. answered (n ∷ [])) f.bytes ∙ sym (after-quiet _ e);
      output_after = c.fill.ensures ∙ ap (λ b. filled silent b a.output.now) location ∙ sym (ap (λ k. filled k bytes a.output.now) e);
    }
