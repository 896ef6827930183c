-- `chain::first_key`: the file opens, or there is no key.
use mathlib.Core.Path.{refl, sym, ap, ap₂, ◌∙◌}
use lib.ListN.{take}
use Rattle.std.specs.Prelude.{Ok, Err}
use Rattle.parts.specs.Part.{part_at}
use Rattle.encoding_header.specs.declared.Header.{Header}
use Rattle.encoding_lookup.specs.Lookup.{part_after}
use Rattle.encoding_header.specs.Header.{header_of, opening}
use Rattle.encoding_header.proofs.Laws.{passed-header, refused-header}
use Rattle.chain.specs.Chain.{first_of}
use Rattle.chain.proofs.first_key.Goals as goal

pub returns-in-Ok : goal.returns-in-Ok
unfolding first_of part_after
returns-in-Ok c =
    let a = c.args in
    let s = a.encoding.now in
    let i = passed-header (opening s) _ (header_of s) (Ok c.in-Ok.h) c.in-Ok.ensures refl in
    let key = take (header_of s).encoding.key_size (part_at s a.at a.length) in
    c.part-in-Ok.ensures.result_value
    ∙ ap₂ take (c.from.ensures ∙ ap (λ (h : Header). h.encoding.key_size) i.1) c.part.ensures.result_value
    ∙ sym (ap (λ k. part_after k key) i.0)

pub returns-in-Err : goal.returns-in-Err
unfolding first_of part_after
returns-in-Err c =
    let a = c.args in
    let s = a.encoding.now in
    let key = take (header_of s).encoding.key_size (part_at s a.at a.length) in
    let no = refused-header (opening s) (header_of s) (Err c.in-Err.field-0) c.in-Err.ensures refl in
    c.part-in-Err.ensures.result_value ∙ sym (ap (λ k. part_after k key) no)
