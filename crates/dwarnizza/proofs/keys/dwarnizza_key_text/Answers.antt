-- `dwarnizza::keys::dwarnizza_key_text`: what `key_text::from_text` answers, laid out, and the key's bytes.
use mathlib.Core.Path.{ap, ◌∙◌}
use mathlib.Core.List.{[], ◌∷◌}
use Rattle.refusal.specs.Outcome.{answered, after}
use Rattle.crossing.proofs.Laws.{crosses-as}
use Rattle.dwarnizza.proofs.LentLaws.{text-lent}
use Rattle.dwarnizza.proofs.NarrowLaws.{text-narrowed, key-narrowed}
use Rattle.dwarnizza.proofs.keys.dwarnizza_key_text.Goals as goal

pub returns : goal.returns
returns c =
    let k = c.narrow-k in
    let a = c.args in
    let read = c.from_text in
    let told = ap (λ x. after x (answered (k.result ∷ []))) read.ensures.check in
    record {
      crosses = crosses-as (told ∙ text-narrowed a.length k.ensures a.text.now) c.tell_key.ensures.crosses;
      key_after = c.tell_key.ensures.key_after ∙ text-lent a.text.now k.result a.key.now read.result read.ensures.check read.ensures.bytes
          ∙ key-narrowed a.length k.ensures a.text.now a.key.now;
    }
