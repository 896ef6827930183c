-- The halving rule and the binary digits of a number: rules L1 and L9. What is claimed of them is in Claims.antt.
use Rattle.std.specs.Prelude.{◌≡◌, Bool, true, false, List, ℕ, zero, suc, ◌+◌, ◌-◌, ◌*◌, ◌/◌, ◌^◌, ◌<◌, ltb, eqb, length}
use Rattle.parts.specs.Part.{part_at}
use Rattle.key.specs.Order.{compared, is_below}
use Rattle.halving.specs.declared.Halved.{Halved}

-- The halving rule over the w keys from start on, after some comparisons. None left: stop. Else the key at
-- start + floor(w / 2) is compared: below the sought one, go on after it, else before it (rule L1).
unfoldable pub halved_once : (none below : Bool) → (ℕ → ℕ → ℕ → Halved) → ℕ → ℕ → ℕ → Halved
halved_once true below go start w count = record { place = start; count = count }
halved_once false true go start w count = go (start + w / 2 + 1) (w - w / 2 - 1) (count + 1)
halved_once false false go start w count = go start (w / 2) (count + 1)

-- The same, over and over. `below` tells whether the key with a number is below the sought one; the range shrinks each time,
-- so its size is enough turns.
unfoldable pub halving : (turns : ℕ) → (ℕ → Bool) → ℕ → ℕ → ℕ → Halved
halving zero below start w count = record { place = start; count = count }
halving (suc turns) below start w count =
    halved_once (eqb w 0) (below (start + w / 2)) (halving turns below) start w count

-- The halving rule over the w keys from start on, after count comparisons.
abbrev pub halved_from : (ℕ → Bool) → (start w count : ℕ) → Halved
halved_from below start w count = halving w below start w count

-- The halving rule over w keys: where it ends, and how many keys it compared.
unfoldable pub halve : (ℕ → Bool) → ℕ → Halved
halve below w = halved_from below 0 w 0

-- Rule L1 as three equations, without the turns: `go` follows it over every range. `halved_from` does (Claims.antt).
pub record HalvingRule (below : ℕ → Bool) (go : (start w count : ℕ) → Halved) : Type 0 where
  -- none left, stop;
  pub none_left : (start count : ℕ) → go start 0 count ≡ record { place = start; count = count }
  -- else compare the key at start + floor(w / 2): if it is below the sought key, go on after it,
  pub below_sought : (start w count : ℕ) → 0 < w → below (start + w / 2) ≡ true → go start w count ≡ go (start + w / 2 + 1) (w - w / 2 - 1) (count + 1)
  -- else before it. Each comparison of a stored key counts one.
  pub not_below : (start w count : ℕ) → 0 < w → below (start + w / 2) ≡ false → go start w count ≡ go start (w / 2) (count + 1)

-- Whether the key with a number is below the sought one, of keys as long as that one that stand `stride` bytes apart.
unfoldable pub is_key_below : List ℕ → ℕ → List ℕ → ℕ → Bool
is_key_below keys stride key i = is_below (compared (part_at keys (i * stride) (length key)) key)

-- The binary digits of a number: the least d with the number below 2 ^ d. 0 has none (rule L9).
unfoldable pub least_or : Bool → (ℕ → ℕ) → ℕ → ℕ
least_or true go d = d
least_or false go d = go (d + 1)

unfoldable pub digits_from : (turns : ℕ) → ℕ → ℕ → ℕ
digits_from zero n d = d
digits_from (suc turns) n d = least_or (ltb n (2 ^ d)) (digits_from turns n) d

unfoldable pub binary_digits : ℕ → ℕ
binary_digits n = digits_from n n 0
