-- `md5_end::last_words`: one byte, zeros and the length.
use mathlib.Core.Path.{ap, ◌∙◌}
use Rattle.md5_block.specs.Block.{words_of}
use Rattle.md5_end.proofs.last_words.Goals as goal

pub returns : goal.returns
returns c = c.block_words.ensures ∙ ap (words_of 16) c.put_length.ensures.t_after
