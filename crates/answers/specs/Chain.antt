-- How the chain's answer crosses to C: rules S2, S3 and S5.
use Rattle.std.specs.Prelude.{List, [], ◌∷◌, ℕ}
use Rattle.refusal.specs.Outcome.{Outcome, answered, absent, refusal}
use Rattle.chain.specs.Chain.{Told, found, absent_at, refused_at}
use Rattle.crossing.specs.Crossing.{CrossesBeside}

-- The index lookup's values; the link of an absent answer in the third word and the comparisons in the fifth; or a refusal (rule
-- S5).
abbrev pub chain_outcome : Told → Outcome
chain_outcome (found values) = answered values
chain_outcome (absent_at link compared) = absent (0 ∷ 0 ∷ link ∷ 0 ∷ compared ∷ [])
chain_outcome (refused_at link number place) = refusal number place

-- The link that stands beside a refusal (rule S3).
abbrev pub refusing_link : Told → ℕ
refusing_link (found values) = 0
refusing_link (absent_at link compared) = 0
refusing_link (refused_at link number place) = link

abbrev pub ChainCrosses : Told → ℕ → List ℕ → Type 0
ChainCrosses told = CrossesBeside (refusing_link told) (chain_outcome told)
