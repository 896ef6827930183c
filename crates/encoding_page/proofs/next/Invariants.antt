-- `encoding_page::next`: what is passed over is padding, so the entries are the same.
use mathlib.Core.Path.{◌≡◌}
use Prim.Native.Nat.{◌-◌}
use Rattle.encoding_page.specs.Entries.{walk_from}
use Rattle.encoding_page.proofs.next.Given as goal

abbrev pub invariant-loop-h : goal.invariant-loop-h
invariant-loop-h l = walk_from l.file l.h l.kind l.end l.from ≡ walk_from l.file l.h l.kind l.end l.at

abbrev pub decreases-loop-h : goal.decreases-loop-h
decreases-loop-h l = l.end - l.at
