-- `name_hash::final_mix`: seven lines, one after the other, and a, b and c in their places.
use Rattle.std.proofs.Common.{ap}
use Rattle.name_hash.specs.Hashlittle.{turned, final_line, final}
use Rattle.name_hash.proofs.Laws.{seven-lines}
use Rattle.name_hash.proofs.final_mix.Goals as goal

pub returns : goal.returns
unfolding final
returns c =
    ap (λ w. turned (turned w))
    (seven-lines final_line _ _ _ _ _ _ _ c.final_line-w.ensures c.final_line-w-2.ensures c.final_line-w-3.ensures
    c.final_line-w-4.ensures c.final_line-w-5.ensures c.final_line-w-6.ensures c.final_line-w-7.ensures)
