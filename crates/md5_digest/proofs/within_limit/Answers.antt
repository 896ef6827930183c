-- `md5_digest::within_limit`: the limit, by a difference that cannot wrap.
use Rattle.md5_digest.proofs.MessageLaws.{over-before, limit-left}
use Rattle.md5_digest.proofs.within_limit.Goals as goal

pub returns-then-count-gt-LIMIT : goal.returns-then-count-gt-LIMIT
returns-then-count-gt-LIMIT c = over-before c.args.count c.args.n c.if-count-gt-LIMIT.true

pub returns : goal.returns
returns c = limit-left c.args.count c.args.n c.if-count-gt-LIMIT.false
