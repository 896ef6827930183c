-- `root_find_path::records::record_with`: a record's name hash is a part of the block.
use Rattle.root_find_path.proofs.Laws.{hash-whole}
use Rattle.root_find_path.proofs.records.record_with.Goals as goal

pub hash_in-requires : goal.hash_in-requires
hash_in-requires c = hash-whole c.requires c.loop-i.i _ c.loop-i-test.true c.hash_at.ensures
