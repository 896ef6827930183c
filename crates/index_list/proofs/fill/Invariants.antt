-- `index_list::fill`: the output begins with the entries of the pages so far.
use mathlib.Core.Path.{◌≡◌}
use mathlib.Core.List.{◌++◌}
use lib.ListN.{length, drop}
use Rattle.parts.specs.Part.{parts_from}
use Rattle.index_layout.specs.Entries.{entries_of}
use Rattle.index_list.proofs.fill.Given as goal

abbrev pub invariant-loop-p : goal.invariant-loop-p
invariant-loop-p l =
    (l.to ≡ length (parts_from (entries_of l.index l.l) 0 l.p))
    × (l.output ≡ (parts_from (entries_of l.index l.l) 0 l.p) ++ drop (length (parts_from (entries_of l.index l.l) 0 l.p)) l.initial.output)
