-- `md5_digest::Md5::new` is `fresh`.
use Rattle.md5_digest.specs.Message.{fresh}
use Rattle.md5_digest.proofs.Md5.new.Goals as goal

pub returns : goal.returns
unfolding fresh
returns c = rw c.initial.ensures
