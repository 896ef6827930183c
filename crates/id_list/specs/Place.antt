-- Where an id stands in a list of ids, or would stand.
use Rattle.std.specs.Prelude.{Bool, ◌&&◌, List, ℕ, ◌-◌, ◌≤◌, ◌<◌, ltb, eqb}
use Rattle.id_list.specs.Ids.{id_count, id_at}

-- Whether id i is there and is this one.
unfoldable pub stands_at : List ℕ → (i id : ℕ) → Bool
stands_at ids i id = ltb i (id_count ids) && eqb (id_at ids i) id

-- The id before low is below the sought one, that at high is not.
pub record Between (ids : List ℕ) (id low high : ℕ) : Type 0 where
  pub order : low ≤ high
  pub within : high ≤ id_count ids
  pub before : 0 < low → id_at ids (low - 1) < id
  pub stops : high < id_count ids → id ≤ id_at ids high

-- A place whose id is not below the sought one, and the id before it is. Over ids that rise there is one only: the first that is not below.
abbrev pub Placed : (ids : List ℕ) → (id place : ℕ) → Type 0
Placed ids id place = Between ids id place place

-- No id is below one before it: what the check of a list gives (proofs/Laws.antt).
pub record Rising (ids : List ℕ) : Type 0 where
  pub rise : (i j : ℕ) → i ≤ j → j < id_count ids → id_at ids i ≤ id_at ids j
