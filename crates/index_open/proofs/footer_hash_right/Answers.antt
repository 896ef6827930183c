-- `index_open::footer_hash_right`: the hash with itself taken as zero, against the stored bytes.
use Rattle.refusal.specs.Number.{footer_hash}
use Rattle.index_open.specs.Open.{hashed_footer}
use Rattle.index_open.proofs.Laws.{hash-told, block-hashed, hashed_length}
use Rattle.index_open.proofs.footer_hash_right.Goals as goal

pub returns : goal.returns
returns c =
    let f = c.args.footer.now in
    let hashed = block-hashed (hashed_footer f) (hashed_length f c.requires) c.footer_block-words.ensures c.addends-k.ensures
    c.initial.ensures c.block.ensures c.eight-hash.ensures in
    hash-told _ _ _ _ c.equal.result footer_hash 0 c.equal.ensures hashed c.part.ensures.result_value
