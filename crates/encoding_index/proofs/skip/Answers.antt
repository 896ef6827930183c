-- `encoding_index::skip`: the first eight bytes tell that the pages passed are above.
use mathlib.Core.Path.{ap, ◌∙◌}
use native.Mathlib.Omega.{arith}
use Rattle.encoding_header.specs.declared.Table.{Table}
use Rattle.encoding_index.proofs.Laws.{skipped-one, above-by-eight}
use Rattle.encoding_index.proofs.skip.Goals as goal

pub loop-i-preserved : goal.loop-i-preserved
loop-i-preserved c =
    let wide = ap (λ (t : Table). t.key_size) c.table.ensures in
    skipped-one _ _ _ _ _ _ c.loop-i.invariant c.loop-i-test.true
    (above-by-eight _ _ _ _ _ _ _ (λ k. (c.type_inv.file k).fits) (omega (arith, c.if-table-lt8.false, wide))
    c.big-sought.ensures (c.eight.ensures ∙ rw c.row_at.ensures) c.if-eight-sought.false)
