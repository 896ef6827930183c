-- m9: the text of a key.
use mathlib.Core.Path.{refl}
use Prim.{tt}
use Rattle.numbers.specs.Number.{within}
use Rattle.refusal.specs.Check.{refused_if, first, first_from}
use Rattle.refusal.specs.Output.{filled}
use Rattle.key_text.specs.Text.{digit_of, digit_check, digits_check, text_check, text_bytes, carried}
use Rattle.text.specs.Text.{ascii}
use Rattle.examples.specs.Examples.{EachHolds, m9}
use Rattle.examples.proofs.Laws.{each}

pub text-rows : EachHolds m9
unfolding within text_bytes filled refused_if first first_from ascii
text-rows = each m9 (refl, (refl, (refl, (refl, tt))))
