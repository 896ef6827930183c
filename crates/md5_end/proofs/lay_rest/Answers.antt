-- `md5_end::lay_rest`: the last bytes of s, past its whole blocks.
use mathlib.Core.Path.{◌≡◌, ap, ◌∙◌}
use lib.ListN.{length}
use Rattle.parts.specs.Part.{overlay}
use Rattle.parts.proofs.Laws.{overlay-length}
use Rattle.md5_end.proofs.EndLaws.{last-part}
use borrow.Author.Rules.{rules}
use Rattle.md5_end.proofs.lay_rest.Goals as goal

pub returns : goal.returns
returns c =
    let a = c.args in
    let size : length a.t.now ≡ 64 = search rules in
    record { t_after = c.copy.ensures ∙ ap (overlay a.t.now 0) (last-part a.s.now); t_len = ap length c.copy.ensures ∙ overlay-length a.t.now 0 _ ∙ size }
