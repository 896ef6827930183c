-- `encoding_page::walk`: what was read and what is still to read make the whole.
use mathlib.Core.Path.{sym, ◌∙◌, ◌≡◌}
use native.Mathlib.Omega.{arith}
use Rattle.encoding_page.proofs.Laws.{key-inside, entry-inside, next-less, reading-first}
use Rattle.encoding_page.proofs.Laws.{reading-next, read-end, read-order, read-last, read-numbers}
use mathlib.Core.Bool.{false}
use Rattle.encoding_page.specs.Entries.{ended}
use Rattle.encoding_page.proofs.walk.Goals as goal

pub loop-h-init : goal.loop-h-init
loop-h-init c = reading-first _ _ _ _ _ _ _ _ c.next-at.ensures

pub key_span-key-requires : goal.key_span-key-requires
key_span-key-requires c =
    let t : ended c.args.file.now c.args.h c.args.kind c.args.end c.loop-h.at ≡ false = sym c.ended.ensures ∙ c.loop-h-test.true in
    let key = key-inside c.args.file.now c.args.h c.args.kind c.loop-h.at in
    omega (arith, key, entry-inside _ _ _ _ _ t)

pub spec_known-specs_known-requires : goal.spec_known-specs_known-requires
spec_known-specs_known-requires c =
    let t : ended c.args.file.now c.args.h c.args.kind c.args.end c.loop-h.at ≡ false = sym c.ended.ensures ∙ c.loop-h-test.true in
    omega (arith, entry-inside _ _ _ _ _ t)

pub overflow_add-at : goal.overflow_add-at
overflow_add-at c =
    let t : ended c.args.file.now c.args.h c.args.kind c.args.end c.loop-h.at ≡ false = sym c.ended.ensures ∙ c.loop-h-test.true in
    omega (arith, c.entry_size.ensures, entry-inside _ _ _ _ _ t)

pub loop-h-smaller : goal.loop-h-smaller
loop-h-smaller c =
    let t : ended c.args.file.now c.args.h c.args.kind c.args.end c.loop-h.at ≡ false = sym c.ended.ensures ∙ c.loop-h-test.true in
    next-less _ _ _ _ _ _ _ t c.entry_size.ensures c.next-at-in-loop-h.ensures

pub loop-h-preserved : goal.loop-h-preserved
loop-h-preserved c =
    let t : ended c.args.file.now c.args.h c.args.kind c.args.end c.loop-h.at ≡ false = sym c.ended.ensures ∙ c.loop-h-test.true in
    let key = c.key_span-key.ensures in
    (reading-next _ _ _ _ _ _ _ _ _ _ _ c.loop-h.invariant _ _ _ _ t (λ i. record { at = key.0 i; size = key.1 i })
    c.key_rises-rises.ensures c.spec_known-specs_known.ensures
    _ c.entry_size.ensures c.next-at-in-loop-h.ensures)

pub returns : goal.returns
returns c =
    let over = sym c.ended.ensures ∙ c.loop-h-test.false in
    let r = c.loop-h.invariant in
    record {
      ends = read-end _ _ _ _ _ _ _ _ _ _ _ r over;
      order = read-order _ _ _ _ _ _ _ _ _ _ _ r over;
      last = read-last _ _ _ _ _ _ _ _ _ _ _ r over;
      numbers = read-numbers _ _ _ _ _ _ _ _ _ _ _ r over;
    }
