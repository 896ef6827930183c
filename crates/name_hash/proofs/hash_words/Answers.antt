-- `name_hash::hash_words`: no bytes, or some.
use Rattle.std.proofs.Common.{rules}
use Rattle.name_hash.proofs.Laws.{hash-none}
use Rattle.name_hash.proofs.hash_words.Goals as goal

pub returns-then-is_empty : goal.returns-then-is_empty
returns-then-is_empty c = hash-none c.args.path.now (search rules) c.start.ensures
