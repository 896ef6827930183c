-- `md5_suite::hex`: 32 digits fill the array.
use mathlib.Core.Path.{◌≡◌, ◌∙◌}
use native.Mathlib.Omega.{arith}
use lib.ListN.{length}
use borrow.Author.Rules.{rules}
use Rattle.text.proofs.PutLaws.{told, put-filled}
use Rattle.text.proofs.TextLaws.{hex-length}
use Rattle.md5_suite.proofs.hex.Goals as goal

pub returns : goal.returns
returns c =
    let size : length c.args.digest.now ≡ 16 = search rules in
    put-filled _ _ _ _ (told _ _ _ _ _ (c.put_hex.ensures.value, c.put_hex.ensures.output_after)) (hex-length c.args.digest.now ∙ omega arith)
