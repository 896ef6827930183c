-- `dwarnizza::hash::dwarnizza_md5_start`: the state before the first part.
use mathlib.Core.Path.{ap, ◌∙◌}
use Rattle.md5_digest.specs.Message.{fresh}
use Rattle.answers.specs.Lent.{words_to}
use Rattle.dwarnizza.proofs.hash.dwarnizza_md5_start.Goals as goal

pub returns-clause-words_after : goal.returns-clause-words_after
unfolding fresh
returns-clause-words_after c =
    let put = c.put_state.ensures in
    let new = c.new.ensures in
    (put.words_after ∙ ap (λ s. words_to s.words) new, put.pending_after ∙ ap (λ s. s.pending) new, put.count_after ∙ ap (λ s. s.count) new)
