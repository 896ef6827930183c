-- What is claimed of the halving rule and of binary digits, each proved by one term: rules L1, L2 and L9.
use Rattle.std.specs.Prelude.{◌≡◌, Bool, true, false, ℕ, ◌^◌, ◌≤◌, ◌<◌}
use Rattle.halving.specs.Halving.{halved_from, halve, HalvingRule, binary_digits}

-- The definition with turns follows the halving rule over every range (rule L1). Proof: proofs/Rule.antt.
abbrev pub HalvingFollowsRule : Type 0
HalvingFollowsRule = (below : ℕ → Bool) → HalvingRule below (halved_from below)

-- Where a key of w keys is below the sought one, so is every one before it.
pub record Rising (below : ℕ → Bool) (w : ℕ) : Type 0 where
  pub earlier : (i j : ℕ) → i < j → j < w → below j ≡ true → below i ≡ true

-- The place of the first of w keys that is not below; w where there is none.
pub record First (below : ℕ → Bool) (w place : ℕ) : Type 0 where
  pub inside : place ≤ w
  pub before : (i : ℕ) → i < place → below i ≡ true
  pub stops : place < w → below place ≡ false

-- Over rising keys the halving rule finds the first key not below (rule L2). Proof: proofs/Laws.antt.
abbrev pub HalvingFindsFirst : Type 0
HalvingFindsFirst = (below : ℕ → Bool) (w : ℕ) → Rising below w → First below w (halve below w).place

-- The least d with n below 2 ^ d.
pub record Least (n d : ℕ) : Type 0 where
  pub below : n < 2 ^ d
  pub least : (e : ℕ) → n < 2 ^ e → d ≤ e

-- The binary digits of every number are the least (rule L9). Proof: proofs/Laws.antt.
abbrev pub DigitsAreLeast : Type 0
DigitsAreLeast = (n : ℕ) → Least n (binary_digits n)
