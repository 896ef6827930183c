-- `md5_digest::words_after`: the end of the message, from the first words on.
use mathlib.Core.Path.{ap, ◌∙◌}
use mathlib.Core.List.{◌++◌}
use lib.ListN.{length}
use Rattle.md5_block.specs.Block.{addends, whole}
use Rattle.md5_digest.specs.Message.{padding}
use Rattle.md5_digest.proofs.words_after.Goals as goal

pub returns : goal.returns
unfolding padding
returns c =
    let m = c.args.message.now in
    c.end.ensures ∙ ap (whole addends (m ++ padding (length m))) c.initial.ensures
