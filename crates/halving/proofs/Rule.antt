-- The definition with turns follows the halving rule.
use mathlib.Core.Path.{◌≡◌, ◌∙◌}
use mathlib.Core.Bool.{Bool}
use Prim.Native.Nat.{ℕ, zero, suc, ◌+◌, ◌<◌}
use native.Mathlib.Omega.{arith}
use Rattle.halving.specs.Halving.{halving, halved_from}
use Rattle.halving.specs.Claims.{HalvingFollowsRule}
use Rattle.halving.proofs.Laws.{any-turns, stop-at-none, go-after, go-before}

-- one turn of a range that has keys, and then as many as the rest has
turn : (below : ℕ → Bool) (start w count next rest : ℕ) → 0 < w → rest < w
    → ((turns : ℕ) → halving (suc turns) below start w count ≡ halving turns below next rest (count + 1))
    → halved_from below start w count ≡ halved_from below next rest (count + 1)
turn below start zero count next rest some less step = absurd (omega arith)
turn below start (suc v) count next rest some less step = step v ∙ any-turns below v next rest (count + 1) (omega arith)

pub halving-rule : HalvingFollowsRule
halving-rule below = record {
  none_left = λ start count. stop-at-none below 0 start count;
  below_sought = λ start w count some t. turn below start w count _ _ some (omega arith) (λ turns. go-after below turns start w count some t);
  not_below = λ start w count some t. turn below start w count _ _ some (omega arith) (λ turns. go-before below turns start w count some t);
}
