-- `md5_block::block_words`: fewer than 64 bytes are laid over zeros.
use Rattle.std.proofs.Common.{◌∙◌}
use Rattle.md5_block.proofs.BlockLaws.{words-padded}
use Rattle.md5_block.proofs.block_words.Goals as goal

pub returns : goal.returns
returns c = c.words_inside-2.ensures ∙ words-padded _ _ c.copy.ensures
