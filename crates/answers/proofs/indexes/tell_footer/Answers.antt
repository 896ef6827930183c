-- `answers::indexes::tell_footer`: the layout, and the lengths.
use mathlib.Core.Path.{refl, sym, ap}
use Rattle.index_open.specs.Open.{layout_values}
use Rattle.crossing.specs.Crossing.{result, answer_words}
use Rattle.crossing.proofs.Laws.{crosses-as}
use Rattle.answers.specs.Lent.{footer_told}
use Rattle.answers.proofs.indexes.tell_footer.Goals as goal

pub returns-in-Ok : goal.returns-in-Ok
unfolding layout_values result answer_words
returns-in-Ok c =
    crosses-as (sym (ap footer_told c.in-Ok.is)) (record { result_is = refl; words_are = rw (c.words.ensures, c.length.ensures) refl })
