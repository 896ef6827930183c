-- `root_find_path::records::id_at`: the id of each record up to the one asked for.
use mathlib.Core.Path.{◌≡◌}
use Rattle.root_block.proofs.Reckoned.{id_before}
use Rattle.root_find_path.proofs.records.id_at.Given as goal

abbrev pub invariant-loop-j : goal.invariant-loop-j
invariant-loop-j l = l.id ≡ id_before l.deltas l.j
