-- `index_file::write_page_hashes`: the hashes of the pages so far lie over the output, behind the pages.
use mathlib.Core.Path.{◌≡◌}
use Prim.Native.Nat.{◌+◌, ◌-◌, ◌*◌, ◌≤◌}
use Rattle.index_layout.specs.Layout.{hash_length, page_offset}
use Rattle.index_file.proofs.Laws.{hashed}
use Rattle.index_file.proofs.write_page_hashes.Given as goal

abbrev pub invariant-loop-p : goal.invariant-loop-p
invariant-loop-p l =
    (l.p ≤ l.pages) × (page_offset l.pages ≤ l.initial.to) × (l.initial.to ≤ 18687402700545) × (l.to ≡ l.initial.to + l.p * hash_length) × (l.output ≡ hashed l.initial.output l.initial.to l.p)

abbrev pub decreases-loop-p : goal.decreases-loop-p
decreases-loop-p l = l.pages - l.p
