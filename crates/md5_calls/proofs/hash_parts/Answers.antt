-- `md5_calls::hash_parts`: after each part the state is that of the beginning of the message.
use lib.ListN.{get_or}
use Rattle.md5_calls.proofs.Laws.{begun, more}
use Rattle.md5_calls.proofs.hash_parts.Goals as goal

pub loop-n-init : goal.loop-n-init
loop-n-init c = rw c.new-state.ensures (begun c.args.message.now)

pub loop-n-preserved : goal.loop-n-preserved
loop-n-preserved c =
    more _ _ (get_or c.args.lengths.now c.loop-n.n-index 0) _ _ c.loop-n.invariant c.part.ensures.result_value c.update.ensures.state
