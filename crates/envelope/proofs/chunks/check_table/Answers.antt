-- `envelope::chunks::check_table`: no check failed before chunk i.
use mathlib.Core.Path.{◌≡◌, sym}
use Prim.Native.Nat.{◌+◌, ◌<◌}
use native.Mathlib.Omega.{arith}
use Rattle.std.proofs.lemmas.Result.{err_from_is_err_and}
use Rattle.envelope_header.specs.Header.{chunk_count}
use Rattle.envelope.proofs.Laws.{judged-none, judged-said, judged-next, judged-all, judged-ends, chunk-hashed, chunk-short, answered-hash, size-there}
use Rattle.envelope.proofs.chunks.check_table.Goals as goal

pub loop-i-init : goal.loop-i-init
loop-i-init c = judged-none _ _ _ c.length-at.ensures

pub overflow_add-next_at : goal.overflow_add-next_at
overflow_add-next_at c =
    let there : c.loop-i.i < chunk_count c.args.h = omega (arith, c.chunks-chunks.ensures) in
    omega (arith, judged-ends c.requires.1 c.loop-i.invariant _ there c.encoded_size-size.ensures, c.well_formed)

pub returns-in_err-hash : goal.returns-in_err-hash
returns-in_err-hash c =
    let short = chunk-short _ _ _ _ _ _ (λ k. (c.type_inv.file k).fits) c.requires.0 c.encoded_size-size.ensures c.part.ensures.result_value in
    absurd (answered-hash _ c.digests-first.ensures.first.0 short c.in_err-hash.was)

pub returns-in_err-check_chunk : goal.returns-in_err-check_chunk
returns-in_err-check_chunk c =
    let there : c.loop-i.i < chunk_count c.args.h = omega (arith, c.chunks-chunks.ensures) in
    let p = err_from_is_err_and c.from_residual-in_err-check_chunk.result c.from_residual-in_err-check_chunk.ensures.1 in
    rw (p.1, p.2) (sym (judged-said c.loop-i.invariant there (sym c.in_err-check_chunk.ensures)))

pub returns-then-chunks-next : goal.returns-then-chunks-next
returns-then-chunks-next c =
    let there : c.loop-i.i < chunk_count c.args.h = omega (arith, c.chunks-chunks.ensures) in
    let first = judged-next c.loop-i.invariant _ there c.encoded_size-size.ensures (sym c.in_ok-check_chunk.ensures) in
    sym (judged-all first (omega (arith, c.if-chunks-next.true, c.chunks-chunks.ensures)))

pub returns-in_err-next_hash : goal.returns-in_err-next_hash
returns-in_err-next_hash c =
    let next : c.loop-i.i + 1 < chunk_count c.args.h = omega (arith, c.if-chunks-next.false, c.chunks-chunks.ensures) in
    let size = size-there _ _ _ _ next c.size_of-next_size.ensures in
    let short = chunk-short _ _ _ _ _ _ (λ k. (c.type_inv.file k).fits) c.requires.0 size c.part-in-loop-i.ensures.result_value in
    absurd (answered-hash _ c.digests-first.ensures.second.0 short c.in_err-next_hash.was)

pub check_chunk-requires-in-loop-i : goal.check_chunk-requires-in-loop-i
check_chunk-requires-in-loop-i c =
    let there : c.loop-i.i < chunk_count c.args.h = omega (arith, c.chunks-chunks.ensures) in
    let next : c.loop-i.i + 1 < chunk_count c.args.h = omega (arith, c.if-chunks-next.false, c.chunks-chunks.ensures) in
    let size = size-there _ _ _ _ next c.size_of-next_size.ensures in
    let first = judged-next c.loop-i.invariant _ there c.encoded_size-size.ensures (sym c.in_ok-check_chunk.ensures) in
    let bytes = rw c.in_ok-next_hash.was at c.digests-first.ensures.second.1 in
    (c.requires.0, first.place, chunk-hashed _ _ _ _ _ _ _ first.place size c.part-in-loop-i.ensures.result_value bytes)

pub returns-in_err-check_chunk-2 : goal.returns-in_err-check_chunk-2
returns-in_err-check_chunk-2 c =
    let there : c.loop-i.i < chunk_count c.args.h = omega (arith, c.chunks-chunks.ensures) in
    let next : c.loop-i.i + 1 < chunk_count c.args.h = omega (arith, c.if-chunks-next.false, c.chunks-chunks.ensures) in
    let first = judged-next c.loop-i.invariant _ there c.encoded_size-size.ensures (sym c.in_ok-check_chunk.ensures) in
    let p = err_from_is_err_and c.from_residual-in_err-check_chunk-2.result c.from_residual-in_err-check_chunk-2.ensures.1 in
    rw (p.1, p.2) (sym (judged-said first next (sym c.in_err-check_chunk-2.ensures)))

pub overflow_add-at : goal.overflow_add-at
overflow_add-at c =
    let there : c.loop-i.i < chunk_count c.args.h = omega (arith, c.chunks-chunks.ensures) in
    let next : c.loop-i.i + 1 < chunk_count c.args.h = omega (arith, c.if-chunks-next.false, c.chunks-chunks.ensures) in
    let size = size-there _ _ _ _ next c.size_of-next_size.ensures in
    let first = judged-next c.loop-i.invariant _ there c.encoded_size-size.ensures (sym c.in_ok-check_chunk.ensures) in
    omega (arith, judged-ends c.requires.1 first _ next size, c.well_formed)

pub loop-i-preserved : goal.loop-i-preserved
loop-i-preserved c =
    let there : c.loop-i.i < chunk_count c.args.h = omega (arith, c.chunks-chunks.ensures) in
    let next : c.loop-i.i + 1 < chunk_count c.args.h = omega (arith, c.if-chunks-next.false, c.chunks-chunks.ensures) in
    let size = size-there _ _ _ _ next c.size_of-next_size.ensures in
    let first = judged-next c.loop-i.invariant _ there c.encoded_size-size.ensures (sym c.in_ok-check_chunk.ensures) in
    let both = judged-next first _ next size (sym c.in_ok-check_chunk-2.ensures) in
    let number : c.loop-i.i + 1 + 1 ≡ c.loop-i.i + 2 = omega arith in
    rw number at both

pub returns : goal.returns
returns c = sym (judged-all c.loop-i.invariant (omega (arith, c.loop-i-test.false, c.chunks-chunks.ensures)))
