-- `md5_digest::digest`: within the limit, from the words after the message.
use mathlib.Core.Path.{ap, ◌∙◌}
use Rattle.md5_digest.specs.Message.{digest_of, md5}
use Rattle.md5_digest.proofs.digest.Goals as goal

pub returns-clause-bytes : goal.returns-clause-bytes
unfolding md5
returns-clause-bytes c = c.bytes.ensures ∙ ap digest_of c.words_after.ensures
