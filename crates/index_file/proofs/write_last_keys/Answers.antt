-- `index_file::write_last_keys`: the last keys of the pages so far lie over the output, behind the pages.
use mathlib.Core.Path.{◌≡◌, sym, ap, ap₂, ◌∙◌}
use Prim.Native.Nat.{◌+◌, ◌≤◌}
use native.Mathlib.Nat.{add-zero}
use native.Mathlib.Omega.{arith}
use lib.ListN.{length}
use Rattle.parts.specs.Part.{parts_from, overlay}
use Rattle.parts.proofs.Laws.{overlay-none}
use Rattle.index_file.specs.File.{last_key_of, last_keys_of}
use Rattle.index_footer.proofs.Laws.{keys-begin}
use Rattle.index_file.proofs.Laws.{last-key-short, last-key-laid}
use Rattle.index_file.proofs.write_last_keys.Goals as goal

pub loop-p-init : goal.loop-p-init
unfolding parts_from
loop-p-init c = (c.last_key_at-to.ensures ∙ keys-begin c.args.l, omega arith, sym (add-zero _), sym (overlay-none _ _))

pub loop-p-preserved : goal.loop-p-preserved
loop-p-preserved c =
    let a = c.args in
    let l = c.loop-p in
    let i = l.invariant in
    let key = c.last_key-key in
    let short : key.result.count ≤ 255 = rw key.ensures.count_value_2 (last-key-short l.output a.l l.p (omega arith)) in
    let read = c.part.ensures.result_value ∙ key.ensures.count_value in
    let count : key.result.count ≡ length c.part.result.now = key.ensures.count_value_2 ∙ sym (ap length read) in
    let turn = last-key-laid a.output.now a.l _ _ _ l.to l.p read (omega (arith, c.well_formed)) (omega (arith, i.0)) i.2 i.3 in
    (i.0, omega (arith, short), ap (λ n. l.to + n) count ∙ turn.0, c.copy.ensures ∙ turn.1)

pub returns : goal.returns
unfolding last_keys_of
returns c =
    let a = c.args in
    let all : c.loop-p.p ≡ a.l.pages = omega arith in
    c.loop-p.invariant.3 ∙ ap₂ (λ m n. overlay a.output.now m (parts_from (last_key_of a.output.now a.l) 0 n)) c.last_key_at-to.ensures all
