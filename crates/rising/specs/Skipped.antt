-- What a private function ensures; no rule of its own.
use Rattle.std.specs.Prelude.{◌≡◌, List, ℕ, ◌-◌, ◌≤◌}
use Rattle.rising.specs.Fall.{fall_from}

-- The keys from one up to another rise.
pub record Skipped (keys : List ℕ) (stride width count from to : ℕ) : Type 0 where
  pub forward : from ≤ to
  pub within : to ≤ count
  pub same : fall_from keys stride width from (count - from) ≡ fall_from keys stride width to (count - to)
