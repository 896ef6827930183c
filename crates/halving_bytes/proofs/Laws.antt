-- Laws of the halving turn by turn, and of where keys stand.
use mathlib.Core.Path.{◌≡◌, refl, ap, ◌∙◌}
use mathlib.Core.Bool.{Bool, true, false}
use Prim.Native.Nat.{ℕ, ◌+◌, ◌-◌, ◌*◌, ◌/◌, ◌^◌, ◌≤◌, ◌<◌}
use native.Mathlib.Nat.{mul-le-mul}
use native.Mathlib.Omega.{arith}
use mir.Syntax.{w64}
use mir.Val.{Fits}
use Rattle.halving.specs.Halving.{halved_from, halve}
use Rattle.halving.proofs.Rule.{halving-rule}

-- Where a key stands, with a stride of 32 bits.
pub offset-fits : {i stride : ℕ} → i < 2 ^ 32 → stride < 2 ^ 32 → Fits w64 (i * stride)
offset-fits {i} {stride} h k =
    let a : i ≤ 4294967295 = omega arith in
    let b : stride ≤ 4294967295 = omega arith in
    let most = mul-le-mul a b in
    record { fits = omega arith }

-- After some turns: what is left of the range, and the comparisons so far.
pub record Reached (below : ℕ → Bool) (w start left count : ℕ) : Type 0 where
  pub inside : start + left ≤ w
  pub counted : count + left ≤ w
  pub rest : halve below w ≡ halved_from below start left count

pub reached-whole : (below : ℕ → Bool) (w : ℕ) → Reached below w 0 w 0
unfolding halve
reached-whole below w = record { inside = omega arith; counted = omega arith; rest = refl }

module _ {below : ℕ → Bool} {w start left count : ℕ} (r : Reached below w start left count) where
  pub reached-after : 0 < left → below (start + left / 2) ≡ true → Reached below w (start + left / 2 + 1) (left - left / 2 - 1) (count + 1)
  reached-after some t = record {
    inside = omega (arith, r.inside);
    counted = omega (arith, r.counted);
    rest = r.rest ∙ (halving-rule below).below_sought start left count some t;
  }

  pub reached-before : 0 < left → below (start + left / 2) ≡ false → Reached below w start (left / 2) (count + 1)
  reached-before some t = record {
    inside = omega (arith, r.inside);
    counted = omega (arith, r.counted);
    rest = r.rest ∙ (halving-rule below).not_below start left count some t;
  }

  pub reached-end : left ≤ 0 → halve below w ≡ record { place = start; count = count }
  reached-end none =
      let e : left ≡ 0 = omega arith in
      r.rest ∙ ap (λ left. halved_from below start left count) e ∙ (halving-rule below).none_left start count
