-- `encoding_page::find`: the entries passed have another key.
use Prim.Native.Nat.{◌-◌}
use Rattle.encoding_page.proofs.Laws.{Searching}
use Rattle.encoding_page.proofs.find.Given as goal

abbrev pub invariant-loop-h : goal.invariant-loop-h
invariant-loop-h l = Searching l.file l.h l.kind l.end l.from l.key l.at

abbrev pub decreases-loop-h : goal.decreases-loop-h
decreases-loop-h l = l.end - l.at
