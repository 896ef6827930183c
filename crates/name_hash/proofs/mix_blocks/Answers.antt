-- `name_hash::mix_blocks`: after i turns the first i blocks are mixed.
use Rattle.name_hash.specs.Hashlittle.{mixed}
use Rattle.name_hash.proofs.Laws.{mixed-next}
use Rattle.name_hash.proofs.mix_blocks.Goals as goal

pub loop-i-init : goal.loop-i-init
unfolding mixed
loop-i-init c = c.start-w.ensures

pub loop-i-preserved : goal.loop-i-preserved
loop-i-preserved c = mixed-next c.args.count c.args.s.now c.loop-i.i c.loop-i.invariant c.add.ensures c.mix-w.ensures
