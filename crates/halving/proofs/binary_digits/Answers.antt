-- `halving::binary_digits` meets its contract: the width less the leading zeros is the least number of digits.
use Rattle.halving.proofs.Laws.{digits-width}
use Rattle.halving.proofs.binary_digits.Goals as goal

pub returns-clause-value : goal.returns-clause-value
returns-clause-value c = digits-width 32 c.args.n c.ranges.n.fits
