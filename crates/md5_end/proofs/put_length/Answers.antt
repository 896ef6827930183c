-- `md5_end::put_length`: the bytes of the length over the last eight.
use mathlib.Core.Path.{◌≡◌, ap, ◌∙◌}
use mathlib.Core.List.{◌++◌}
use lib.ListN.{length, take}
use Rattle.parts.proofs.Laws.{overlay-length}
use Rattle.md5_end.proofs.EndLaws.{eight-bytes, little-length, bits-modulo, length-put}
use borrow.Author.Rules.{rules}
use Rattle.md5_end.proofs.put_length.Goals as goal

pub returns : goal.returns
returns c =
    let t = c.args.t.now in
    let l = c.to_le_bytes-length in
    let bytes = l.ensures ∙ eight-bytes _ in
    let size : length t ≡ 64 = search rules in
    let eight : length l.result ≡ 8 = ap length bytes ∙ little-length 8 _ in
    record {
      t_after = length-put t l.result _ size eight c.copy.ensures ∙ ap (λ x. take 56 t ++ x) (bytes ∙ bits-modulo _);
      t_len = ap length c.copy.ensures ∙ overlay-length t 56 l.result ∙ size;
    }
