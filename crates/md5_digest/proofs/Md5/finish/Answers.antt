-- `md5_digest::Md5::finish`: the digest of the waiting bytes and the padding.
use mathlib.Core.Path.{◌≡◌, sym, ap, ◌∙◌}
use mathlib.Core.List.{◌++◌}
use Prim.Native.Nat.{◌%◌, ◌≤◌}
use native.Mathlib.Omega.{arith}
use lib.ListN.{length}
use lib.Seq.{length-take-le}
use Rattle.md5_block.specs.Block.{addends, whole}
use Rattle.md5_end.specs.End.{padded}
use Rattle.md5_digest.specs.Message.{padding, waiting, digest_of, finished}
use Rattle.md5_digest.proofs.MessageLaws.{waiting-zeros}
use borrow.Author.Rules.{rules}
use Rattle.md5_digest.proofs.Md5.finish.Goals as goal

pub slice_bounds-pending-end : goal.slice_bounds-pending-end
slice_bounds-pending-end c =
    let size : length c.args.self.pending ≡ 64 = search rules in
    omega arith

pub slice_bounds-end-end : goal.slice_bounds-end-end
slice_bounds-end-end c =
    let size : length c.args.self.pending ≡ 64 = search rules in
    let fits : c.args.self.count % 64 ≤ length c.args.self.pending = omega arith in
    sym (length-take-le _ _ fits)

pub returns : goal.returns
unfolding padding finished
returns c =
    let s = c.args.self in
    let size : length s.pending ≡ 64 = search rules in
    let fits : s.count % 64 ≤ length s.pending = omega arith in
    let zeros = waiting-zeros (waiting s) s.count (length-take-le _ _ fits) in
    c.bytes.ensures ∙ ap digest_of (c.end.ensures ∙ ap (λ z. whole addends (waiting s ++ padded z s.count) s.words) zeros)
