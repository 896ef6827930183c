-- `encoding_page::next`: what is passed over is padding, so the entries are the same.
use mathlib.Core.Path.{◌≡◌, sym, ap, ◌∙◌}
use native.Mathlib.Omega.{arith}
use Rattle.encoding_page.specs.Entries.{Walk, head_or, ended}
use Rattle.encoding_page.proofs.Laws.{size-some, entry-inside, walk-padding, next-ended, next-entry}
use mathlib.Core.Bool.{false}
use Rattle.encoding_page.proofs.next.Goals as goal

pub padding-requires : goal.padding-requires
padding-requires c =
    let t : ended c.args.file.now c.args.h c.args.kind c.args.end c.loop-h.at ≡ false = sym c.ended.ensures ∙ c.loop-h-test.true in
    omega (arith, entry-inside _ _ _ _ _ t)

pub returns-then-not-padding : goal.returns-then-not-padding
returns-then-not-padding c =
    let t : ended c.args.file.now c.args.h c.args.kind c.args.end c.loop-h.at ≡ false = sym c.ended.ensures ∙ c.loop-h-test.true in
    sym (ap (λ (w : Walk). head_or w.entries w.end) c.loop-h.invariant ∙ next-entry _ _ _ _ _ t (sym c.padding.ensures ∙ c.if-not-padding.true))

pub overflow_add-at : goal.overflow_add-at
overflow_add-at c =
    let t : ended c.args.file.now c.args.h c.args.kind c.args.end c.loop-h.at ≡ false = sym c.ended.ensures ∙ c.loop-h-test.true in
    omega (arith, c.entry_size-at.ensures, entry-inside _ _ _ _ _ t)

pub loop-h-smaller : goal.loop-h-smaller
loop-h-smaller c =
    let t : ended c.args.file.now c.args.h c.args.kind c.args.end c.loop-h.at ≡ false = sym c.ended.ensures ∙ c.loop-h-test.true in
    let some = size-some c.args.file.now c.args.h c.args.kind c.loop-h.at in
    omega (arith, c.entry_size-at.ensures, some, entry-inside _ _ _ _ _ t)

pub loop-h-preserved : goal.loop-h-preserved
loop-h-preserved c =
    let t : ended c.args.file.now c.args.h c.args.kind c.args.end c.loop-h.at ≡ false = sym c.ended.ensures ∙ c.loop-h-test.true in
    let padding = sym c.padding.ensures ∙ c.if-not-padding.false in
    c.loop-h.invariant ∙ rw c.entry_size-at.ensures (walk-padding _ _ _ _ _ t padding)

pub returns : goal.returns
returns c =
    sym (ap (λ (w : Walk). head_or w.entries w.end) c.loop-h.invariant ∙ next-ended _ _ _ _ _ (sym c.ended.ensures ∙ c.loop-h-test.false))
