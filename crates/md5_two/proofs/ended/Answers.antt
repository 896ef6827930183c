-- `md5_two::ended`: whole blocks together, then the end of each.
use mathlib.Core.Path.{◌≡◌, refl, ap, ap₂, ◌∙◌}
use Prim.Native.Nat.{◌-◌, ◌%◌}
use lib.ListN.{length, take, drop}
use Rattle.md5_block.specs.Block.{whole}
use Rattle.md5_end.specs.End.{rest}
use Rattle.md5_end.proofs.EndLaws.{last-part}
use Rattle.md5_two.specs.Two.{whole_two}
use Rattle.md5_two.proofs.TwoLaws.{end-itself}
use Rattle.md5_two.proofs.ended.Goals as goal

pub returns : goal.returns
unfolding whole_two
returns c =
    let a = c.args.a.now in
    let b = c.args.b.now in
    let same = c.requires in
    let e = c.blocks_two-e.ensures in
    let k = c.addends-k.ensures in
    let first = ap (λ w. w.first) e ∙ ap₂ (λ t w. whole t a w) k c.initial.ensures in
    let second = ap (λ w. w.second) e ∙ ap₂ (λ t w. whole t b w) k c.initial-2.ensures in
    let other : take (length b - (length a - length a % 64)) (drop (length a - length a % 64) b) ≡ rest b =
    ap (λ n. take (length b - (n - n % 64)) (drop (n - n % 64) b)) same ∙ last-part b in record { first_value = end-itself a _ (length a) _ _ _ refl (last-part a) first c.end.ensures; second_value = end-itself b _ (length a) _ _ _ same other second c.end-2.ensures }
