-- `envelope_header::check_sizes`: the bytes left after each chunk.
use native.Mathlib.Omega.{arith}
use mathlib.Core.Path.{sym}
use Rattle.envelope_header.proofs.Laws.{header-over, sized-none, sized-empty, sized-over, sized-next, sized-more, sized-all}
use Rattle.envelope_header.proofs.check_sizes.Goals as goal

pub returns-then-file-length : goal.returns-then-file-length
returns-then-file-length c = rw c.at.ensures (sym (header-over _ _ (omega (arith, c.length.ensures))))

pub loop-i-init : goal.loop-i-init
loop-i-init c = sized-none _ _ _ (omega (arith, c.length.ensures)) (omega (arith, c.length-2.ensures))

pub returns-then-size-eq0 : goal.returns-then-size-eq0
returns-then-size-eq0 c =
    rw c.at-then-size-eq0.ensures
    (sym (sized-empty c.loop-i.invariant _ c.encoded_size-size.ensures (omega (arith, c.chunks-chunks.ensures)) c.if-size-eq0.true))

pub returns-then-left-size : goal.returns-then-left-size
returns-then-left-size c =
    rw c.at-then-left-size.ensures
    (sym (sized-over c.loop-i.invariant _ c.encoded_size-size.ensures (omega (arith, c.chunks-chunks.ensures)) c.if-left-size.true))

pub loop-i-preserved : goal.loop-i-preserved
loop-i-preserved c =
    sized-next c.loop-i.invariant _ c.encoded_size-size.ensures (omega (arith, c.chunks-chunks.ensures)) c.if-size-eq0.false c.if-left-size.false

pub returns-then-left-ne0 : goal.returns-then-left-ne0
returns-then-left-ne0 c =
    rw c.at-then-left-ne0.ensures (sym (sized-more c.loop-i.invariant (omega (arith, c.loop-i-test.false, c.chunks-chunks.ensures)) c.if-left-ne0.true))

pub returns : goal.returns
returns c = sym (sized-all c.loop-i.invariant (omega (arith, c.loop-i-test.false, c.chunks-chunks.ensures)) c.if-left-ne0.false)
