-- `numbers::word`: four bytes fit.
use Rattle.numbers.proofs.Laws.{word_fits}
use Rattle.numbers.proofs.word.Goals as goal

pub overflow_cast-result : goal.overflow_cast-result
overflow_cast-result c = record { fits = word_fits _ _ _ (λ i. (c.type_inv.s i).fits) c.little.ensures }
