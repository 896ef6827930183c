-- `md5_two::four_two`: four steps of each message.
use Rattle.md5_two.specs.Two.{steps_two}
use Rattle.md5_two.proofs.TwoLaws.{paired}
use Rattle.md5_two.proofs.four_two.Goals as goal

pub returns : goal.returns
unfolding steps_two
returns c = paired c.four.ensures c.four-2.ensures
