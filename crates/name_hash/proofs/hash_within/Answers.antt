-- `name_hash::hash_within`: the path in front of zeros.
use Rattle.std.proofs.Common.{rules}
use Rattle.name_hash.proofs.Laws.{hash-some}
use Rattle.name_hash.proofs.hash_within.Goals as goal

pub returns : goal.returns
returns g c = hash-some c.args.path.now _ g.row.N c.requires.0 (search rules) c.normalize.ensures c.end.ensures
