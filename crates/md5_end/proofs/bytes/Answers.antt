-- `md5_end::bytes`: the bytes of a and b, and those of c and d.
use mathlib.Core.Path.{sym, ap, ap₂, ◌∙◌}
use mathlib.Core.List.{◌++◌, append_assoc}
use Prim.Native.Nat.{◌<◌}
use native.Mathlib.Omega.{arith}
use lib.ListN.{length}
use Rattle.md5_end.specs.End.{little_bytes, digest_of}
use Rattle.md5_end.proofs.EndLaws.{eight-bytes, little-length, two-words, digest-laid}
use Rattle.md5_end.proofs.bytes.Goals as goal

pub returns : goal.returns
unfolding digest_of
returns c =
    let w = c.args.w in
    let fits : (w.a < 4294967296) × (w.c < 4294967296) = (omega (arith, c.well_formed), omega (arith, c.well_formed)) in
    let l = c.to_le_bytes-low in
    let low-bytes = l.ensures ∙ eight-bytes _ in
    let h = c.to_le_bytes-high in
    let high-bytes = h.ensures ∙ eight-bytes _ in
    let low = low-bytes ∙ ap (little_bytes 8) c.pair.ensures ∙ two-words w.a w.b fits.0 in
    let high = high-bytes ∙ ap (little_bytes 8) c.pair-2.ensures ∙ two-words w.c w.d fits.1 in
    digest-laid l.result h.result _ _ (ap length low-bytes ∙ little-length 8 _) (ap length high-bytes ∙ little-length 8 _)
    c.copy.ensures c.copy-2.ensures
    ∙ ap₂ (λ x y. x ++ y) low high ∙ sym (append_assoc (little_bytes 4 w.a ++ little_bytes 4 w.b) (little_bytes 4 w.c) (little_bytes 4 w.d))
