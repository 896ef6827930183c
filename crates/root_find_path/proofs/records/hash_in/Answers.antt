-- `root_find_path::records::hash_in`: the lowest byte first.
use native.Mathlib.Omega.{arith}
use Rattle.root_find_path.proofs.Laws.{hash-is}
use Rattle.root_find_path.proofs.records.hash_in.Goals as goal

pub returns : goal.returns
returns c = omega (arith, c.from_le_bytes.ensures, hash-is c.args.bytes.now c.args.at)
