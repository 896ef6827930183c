-- What reading a key's text tells C: rules S5 and T3.
use Rattle.std.specs.Prelude.{List, [], ◌∷◌, ℕ}
use Rattle.refusal.specs.Outcome.{Outcome, answered, after}
use Rattle.key_text.specs.Text.{text_check}

-- K.
abbrev pub text_outcome : List ℕ → ℕ → Outcome
text_outcome text k = after (text_check text k) (answered (k ∷ []))
