-- `md5_suite::room`: the length by a law, since a list so long is not to be computed.
use Rattle.md5_suite.proofs.Laws.{zeros-length}
use Rattle.md5_suite.proofs.room.Goals as goal

pub returns : goal.returns
returns c = zeros-length 1000000
