-- `md5_end::eight`: the bytes of a and b.
use mathlib.Core.Path.{ap, ◌∙◌}
use Prim.Native.Nat.{◌<◌}
use native.Mathlib.Omega.{arith}
use Rattle.md5_end.specs.End.{little_bytes, digest_of}
use Rattle.md5_end.proofs.EndLaws.{eight-bytes, two-words}
use Rattle.md5_end.proofs.eight.Goals as goal

pub returns : goal.returns
unfolding little_bytes digest_of
returns c =
    let w = c.args.w in
    let fits : w.a < 4294967296 = omega arith in
    c.to_le_bytes.ensures ∙ eight-bytes _ ∙ ap (little_bytes 8) c.pair.ensures ∙ two-words w.a w.b fits
