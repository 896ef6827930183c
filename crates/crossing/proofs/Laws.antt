-- Laws of answers that cross.
use mathlib.Core.Path.{◌≡◌, refl, ap, ◌∙◌}
use mathlib.Core.List.{List}
use Prim.Native.Nat.{ℕ}
use Rattle.refusal.specs.Outcome.{Outcome}
use Rattle.crossing.specs.Crossing.{result, answer_words, Crosses, CrossesBeside}

-- what crosses for an outcome crosses for one that equals it
pub crosses-beside : {a b : ℕ} {o p : Outcome} {told : ℕ} {words : List ℕ} → a ≡ b → o ≡ p
    → CrossesBeside a o told words → CrossesBeside b p told words
crosses-beside {b = b} {o = o} d e c =
    record { result_is = c.result_is ∙ ap result e; words_are = c.words_are ∙ ap (λ n. answer_words n o) d ∙ ap (answer_words b) e }

pub crosses-as : {o p : Outcome} {told : ℕ} {words : List ℕ} → o ≡ p → Crosses o told words → Crosses p told words
crosses-as e c = crosses-beside refl e c
