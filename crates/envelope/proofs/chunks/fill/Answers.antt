-- `envelope::chunks::fill`: the output begins with the content of the chunks so far.
use mathlib.Core.Path.{◌≡◌, refl, sym, ap, ap₂, ◌∙◌}
use mathlib.Core.List.{◌++◌}
use Prim.Native.Nat.{◌+◌, ◌-◌, ◌<◌}
use native.Mathlib.Omega.{arith}
use lib.ListN.{length, drop}
use Rattle.refusal.specs.Output.{filled}
use Rattle.parts.specs.Part.{part_at, parts_from}
use Rattle.parts.proofs.Parts.{part-turn}
use Rattle.envelope_header.specs.Header.{chunk_count, chunk_at}
use Rattle.envelope_header.proofs.Laws.{chunk-after}
use Rattle.envelope.specs.Envelope.{content_of, content_by}
use Rattle.envelope.proofs.Laws.{inside, not-empty}
use Rattle.envelope.proofs.chunks.fill.Goals as goal

pub loop-i-init : goal.loop-i-init
unfolding parts_from chunk_at
loop-i-init c = (omega arith, c.length-at.ensures, refl, refl)

pub overflow_add-at : goal.overflow_add-at
overflow_add-at c =
    let l = c.loop-i in
    let there : l.i < chunk_count c.args.h = omega (arith, c.chunks-chunks.ensures) in
    omega (arith, inside _ _ c.requires.h_value l.i there, not-empty _ _ c.requires.h_value l.i there, l.invariant.1, c.well_formed)

pub overflow_add-at-in-loop-i : goal.overflow_add-at-in-loop-i
overflow_add-at-in-loop-i c =
    let l = c.loop-i in
    let there : l.i < chunk_count c.args.h = omega (arith, c.chunks-chunks.ensures) in
    omega (arith, inside _ _ c.requires.h_value l.i there, l.invariant.1, c.encoded_size-size.ensures, c.well_formed)

pub loop-i-preserved : goal.loop-i-preserved
unfolding content_by
loop-i-preserved c =
    let l = c.loop-i in
    let there : l.i < chunk_count c.args.h = omega (arith, c.chunks-chunks.ensures) in
    let size = c.saturating_sub.ensures ∙ ap (λ n. n - 1) c.encoded_size-size.ensures in
    let content = c.part-content.ensures.result_value ∙ ap₂ (part_at _) (ap (λ n. n + 1) l.invariant.1) size in
    let more = part-turn _ l.i _ _ _ _ _ there c.requires.h_in_bounds content l.invariant.2 l.invariant.3 in (
      omega (arith, there),
      ap₂ ◌+◌ l.invariant.1 c.encoded_size-size.ensures ∙ sym (chunk-after _ _ l.i),
      more.0,
      c.copy.ensures ∙ more.1,
    )

pub returns : goal.returns
unfolding filled content_by
returns c =
    let a = c.args in
    let l = c.loop-i in
    let contents = parts_from (content_of a.file.now a.h) 0 in
    let all : l.i ≡ chunk_count a.h = omega (arith, l.invariant.0, c.loop-i-test.false, c.chunks-chunks.ensures) in
    l.invariant.3 ∙ ap (λ i. contents i ++ drop (length (contents i)) a.output.now) all
