-- `encoding_page::find`: the entries passed have another key.
use mathlib.Core.Path.{◌≡◌, sym, ap, ap₂, ◌∙◌}
use Prim.Native.Nat.{◌+◌}
use native.Mathlib.Omega.{arith}
use Rattle.parts.specs.Part.{part_at}
use Rattle.encoding_page.specs.Entries.{key_at, ended}
use Rattle.encoding_page.proofs.Laws.{key-inside, entry-inside, next-less}
use Rattle.encoding_page.proofs.Laws.{searching-first, search-found, searching-next, search-end}
use mathlib.Core.Bool.{false}
use Rattle.encoding_page.proofs.find.Goals as goal

pub loop-h-init : goal.loop-h-init
loop-h-init c = searching-first _ _ _ _ _ _ _ c.next-at.ensures

pub overflow_add-at : goal.overflow_add-at
overflow_add-at c =
    let t : ended c.args.file.now c.args.h c.args.kind c.args.end c.loop-h.at ≡ false = sym c.ended.ensures ∙ c.loop-h-test.true in
    let key = key-inside c.args.file.now c.args.h c.args.kind c.loop-h.at in
    omega (arith, c.key_offset.ensures, key, entry-inside _ _ _ _ _ t)

pub returns-then-same : goal.returns-then-same
unfolding key_at
returns-then-same c =
    let t : ended c.args.file.now c.args.h c.args.kind c.args.end c.loop-h.at ≡ false = sym c.ended.ensures ∙ c.loop-h-test.true in
    let size = c.from-size.ensures ∙ c.key_size.ensures in
    let key : c.part.result.now ≡ key_at c.args.file.now c.args.h c.args.kind c.loop-h.at =
    c.part.ensures.result_value ∙ ap₂ (part_at _) (ap (◌+◌ _) c.key_offset.ensures) size in
    record {
      value = search-found _ _ _ _ _ _ _ c.loop-h.invariant _ t key (sym c.same.ensures ∙ c.if-same.true);
      by_index = entry-inside _ _ _ _ _ t;
    }

pub overflow_add-at-in-loop-h : goal.overflow_add-at-in-loop-h
overflow_add-at-in-loop-h c =
    let t : ended c.args.file.now c.args.h c.args.kind c.args.end c.loop-h.at ≡ false = sym c.ended.ensures ∙ c.loop-h-test.true in
    omega (arith, c.entry_size.ensures, entry-inside _ _ _ _ _ t)

pub loop-h-smaller : goal.loop-h-smaller
loop-h-smaller c =
    let t : ended c.args.file.now c.args.h c.args.kind c.args.end c.loop-h.at ≡ false = sym c.ended.ensures ∙ c.loop-h-test.true in
    next-less _ _ _ _ _ _ _ t c.entry_size.ensures c.next-at-in-loop-h.ensures

pub loop-h-preserved : goal.loop-h-preserved
unfolding key_at
loop-h-preserved c =
    let t : ended c.args.file.now c.args.h c.args.kind c.args.end c.loop-h.at ≡ false = sym c.ended.ensures ∙ c.loop-h-test.true in
    let size = c.from-size.ensures ∙ c.key_size.ensures in
    let key : c.part.result.now ≡ key_at c.args.file.now c.args.h c.args.kind c.loop-h.at =
    c.part.ensures.result_value ∙ ap₂ (part_at _) (ap (◌+◌ _) c.key_offset.ensures) size in
    let differs = sym c.same.ensures ∙ c.if-same.false in
    searching-next _ _ _ _ _ _ _ c.loop-h.invariant _ _ t key differs (c.next-at-in-loop-h.ensures ∙ rw c.entry_size.ensures)

pub returns-clause-value : goal.returns-clause-value
returns-clause-value c = search-end _ _ _ _ _ _ _ c.loop-h.invariant (sym c.ended.ensures ∙ c.loop-h-test.false)
