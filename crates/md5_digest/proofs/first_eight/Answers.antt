-- `md5_digest::first_eight`: within the limit, from the words after the message.
use mathlib.Core.Path.{ap, ◌∙◌}
use lib.ListN.{take}
use Rattle.md5_digest.specs.Message.{digest_of, md5}
use Rattle.md5_digest.proofs.first_eight.Goals as goal

pub returns-clause-bytes : goal.returns-clause-bytes
unfolding md5
returns-clause-bytes c = c.eight.ensures ∙ ap (λ w. take 8 (digest_of w)) c.words_after.ensures
