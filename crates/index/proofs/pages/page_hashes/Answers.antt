-- `index::pages::page_hashes`: two pages are short enough to be hashed.
use mathlib.Core.Path.{ap}
use Prim.Native.Nat.{◌+◌}
use native.Mathlib.Omega.{arith}
use lib.ListN.{length}
use Rattle.parts.proofs.Laws.{part_at-length}
use Rattle.index_open.proofs.Laws.{is-hashed}
use Rattle.index_layout.specs.Layout.{page_size}
use Rattle.index.proofs.pages.page_hashes.Goals as goal

pub unwrap-requires : goal.unwrap-requires
unwrap-requires c =
    is-hashed _ _ (omega (arith, ap length c.part.ensures.result_value, part_at-length c.args.s.now c.page_at-at.result page_size))
    c.first_eight_of_two-first.ensures.first.0

pub unwrap-requires-2 : goal.unwrap-requires-2
unwrap-requires-2 c =
    let at = c.page_at-at.result + page_size in
    is-hashed _ _ (omega (arith, ap length c.part-2.ensures.result_value, part_at-length c.args.s.now at page_size))
    c.first_eight_of_two-first.ensures.second.0
