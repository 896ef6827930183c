-- `md5_digest::join`: the part after the bytes that wait.
use mathlib.Core.Path.{◌≡◌}
use lib.ListN.{length}
use Rattle.md5_digest.proofs.MessageLaws.{absorb-short}
use borrow.Author.Rules.{rules}
use Rattle.md5_digest.proofs.join.Goals as goal

pub returns : goal.returns
returns c =
    let size : length c.args.state.pending ≡ 64 = search rules in
    absorb-short c.args.state c.args.part.now _ size c.requires.1 c.copy.ensures
