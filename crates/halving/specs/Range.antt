-- What private functions ensure, in terms of the halving rule; no rule of its own.
use Rattle.std.specs.Prelude.{◌≡◌, Bool, true, false, List, ℕ, ◌+◌, ◌-◌, ◌*◌, ◌/◌, ◌^◌, ◌≤◌, ◌<◌, ltb}
use Rattle.key.specs.Eight.{eight_at}
use Rattle.halving.specs.declared.Range.{Range}
use Rattle.halving.specs.declared.Fronts.{Fronts}
use Rattle.halving.specs.Halving.{halved_from}

-- A range with at least n keys, whose numbers fit in 32 bits.
pub record Holds (n : ℕ) (r : Range) : Type 0 where
  pub keys : n ≤ r.left
  pub places : r.start + r.left < 2 ^ 32
  pub counts : r.count + r.left < 2 ^ 32

-- All of w keys, before any comparison.
abbrev pub whole : ℕ → Range
whole w = record { start = 0; left = w; count = 0 }

-- The key of a range that the rule compares, and the range that it goes on with.
abbrev pub middle_of : Range → ℕ
middle_of r = r.start + r.left / 2

abbrev pub next_of : Range → (below : Bool) → Range
next_of r true = record { start = middle_of r + 1; left = r.left - r.left / 2 - 1; count = r.count + 1 }
next_of r false = record { start = r.start; left = r.left / 2; count = r.count + 1 }

-- The first eight bytes of a range's middle key; and of the middle keys of the two ranges that may come next.
abbrev pub front_of : List ℕ → (stride : ℕ) → Range → ℕ
front_of keys stride r = eight_at keys (middle_of r * stride)

abbrev pub fronts_of : List ℕ → (stride : ℕ) → Range → Fronts
fronts_of keys stride r = record {
  middle = front_of keys stride r;
  before = front_of keys stride (next_of r false);
  after = front_of keys stride (next_of r true);
}

-- Of each key before w the first eight bytes tell whether it is below, where they are not those of the sought one.
pub record Told (keys : List ℕ) (stride sought w : ℕ) (below : ℕ → Bool) : Type 0 where
  pub tells : (i : ℕ) → i < w → (eight_at keys (i * stride) ≡ sought → ⊥) → below i ≡ ltb (eight_at keys (i * stride)) sought

-- The rule over one range comes to another, which lies in it.
pub record Leads (below : ℕ → Bool) (from to : Range) : Type 0 where
  pub places : to.start + to.left ≤ from.start + from.left
  pub counts : to.count + to.left ≤ from.count + from.left
  pub same : halved_from below from.start from.left from.count ≡ halved_from below to.start to.left to.count
