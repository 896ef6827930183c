-- `encoding_page::walk`: what was read and what is still to read make the whole.
use Prim.Native.Nat.{◌-◌}
use Rattle.encoding_page.proofs.Laws.{Reading}
use Rattle.encoding_page.proofs.walk.Given as goal

abbrev pub invariant-loop-h : goal.invariant-loop-h
invariant-loop-h l =
    Reading l.file l.h l.kind l.end l.from l.initial.last l.specs l.at l.last l.rises l.specs_known

abbrev pub decreases-loop-h : goal.decreases-loop-h
decreases-loop-h l = l.end - l.at
