-- `index_file::write_last_keys`: the last keys of the pages so far lie over the output, behind the pages.
use mathlib.Core.Path.{◌≡◌}
use Prim.Native.Nat.{◌+◌, ◌*◌, ◌≤◌}
use lib.ListN.{length}
use Rattle.parts.specs.Part.{parts_from, overlay}
use Rattle.index_layout.specs.Layout.{page_offset}
use Rattle.index_file.specs.File.{last_key_of}
use Rattle.index_file.proofs.write_last_keys.Given as goal

abbrev pub invariant-loop-p : goal.invariant-loop-p
invariant-loop-p l =
    (l.initial.to ≡ page_offset l.pages) × (l.to ≤ l.initial.to + l.p * 255) × (l.to ≡ l.initial.to + length (parts_from (last_key_of l.initial.output l.l) 0 l.p))
    × (l.output ≡ overlay l.initial.output l.initial.to (parts_from (last_key_of l.initial.output l.l) 0 l.p))
