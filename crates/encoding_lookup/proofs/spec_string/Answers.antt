-- `encoding_lookup::spec_string`: the string of the table.
use mathlib.Core.Path.{refl, sym, ap, ◌∙◌}
use native.Mathlib.Omega.{arith}
use Rattle.spec_table.specs.Specs.{spec_of}
use Rattle.encoding_header.specs.Header.{header_of, spec_table, opening}
use Rattle.encoding_header.proofs.Laws.{passed-header, refused-header}
use Rattle.encoding_lookup.specs.Lookup.{part_after, spec_string}
use Rattle.encoding_lookup.proofs.Inside.{spec-place, spec-nowhere}
use Rattle.encoding_lookup.proofs.spec_string.Goals as goal

pub returns-in-Ok : goal.returns-in-Ok
unfolding spec_string part_after
returns-in-Ok c =
    let s = c.args.file.now in
    let n = c.args.number in
    let i = passed-header (opening s) _ (header_of s) _ c.in-Ok.ensures refl in
    let table = c.spec_table.ensures.result_value ∙ ap (spec_table s) i.1 in
    let at = c.string.ensures.ref_ptr_value in
    let from = c.spec_table.ensures.ref_ptr_value in record {
      result_value = c.string.ensures.result_value ∙ ap (λ u. spec_of u n) table ∙ sym (ap (λ k. part_after k (spec_of (spec_table s (header_of s)) n)) i.0);
      ref_ptr_value = (at.0 ∙ from.0, omega (arith, at.1, from.1, spec-place s n i.0 _ table));
    }

pub returns-in-Err : goal.returns-in-Err
unfolding spec_string part_after
returns-in-Err c =
    let s = c.args.file.now in
    let n = c.args.number in
    let no = refused-header (opening s) (header_of s) _ c.in-Err.ensures refl in
    let at = c.part.ensures.ref_ptr_value in record {
      result_value = c.part.ensures.result_value ∙ sym (ap (λ k. part_after k (spec_of (spec_table s (header_of s)) n)) no);
      ref_ptr_value = (at.0, omega (arith, at.1, spec-nowhere s n no));
    }
