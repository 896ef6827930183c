-- What an answer tells, whatever type carries it: rules G12, G13 and P5.
use Rattle.std.specs.Prelude.{List, [], ◌∷◌, ℕ, Result, Ok, Err}
use Rattle.refusal.specs.Check.{Check, silent, refused}
use Rattle.refusal.specs.declared.Refusal.{Refusal}
use Rattle.refusal.specs.Number.{number_of}

-- Answered or absent, each with its values, or a refusal's number and place (rules G12, G13).
pub data Outcome : Type 0 where
  answered : (values : List ℕ) → Outcome
  absent : (values : List ℕ) → Outcome
  refusal : (number place : ℕ) → Outcome

-- What is told after a check: its refusal, where it refuses.
unfoldable pub after : Check → Outcome → Outcome
after silent outcome = outcome
after (refused number place) outcome = refusal number place

-- What a result tells: the values of its answer, or its refusal.
abbrev pub outcome_by : {T : Type 0} → (T → List ℕ) → Result T Refusal → Outcome
outcome_by values (Ok answer) = answered (values answer)
outcome_by values (Err r) = refusal (number_of r.reason) r.place

-- What a call that writes tells: how many bytes.
abbrev pub written_outcome : Result ℕ Refusal → Outcome
written_outcome = outcome_by (λ n. n ∷ [])
