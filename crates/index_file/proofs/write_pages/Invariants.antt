-- `index_file::write_pages`: the pages so far lie over the output.
use mathlib.Core.Path.{◌≡◌}
use Prim.Native.Nat.{◌+◌, ◌*◌, ◌≤◌}
use lib.ListN.{length}
use Rattle.parts.specs.Part.{parts_from, overlay}
use Rattle.index_layout.specs.Layout.{page_size}
use Rattle.index_file.specs.File.{page_in}
use Rattle.index_file.proofs.write_pages.Given as goal

abbrev pub invariant-loop-p : goal.invariant-loop-p
invariant-loop-p l =
    (l.to ≤ l.p * (2 * page_size)) × (l.to ≡ 0 + length (parts_from (page_in l.list l.l) 0 l.p))
    × (l.output ≡ overlay l.initial.output 0 (parts_from (page_in l.list l.l) 0 l.p))
