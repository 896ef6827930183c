-- Whether keys rise strictly: rule I11.
use Rattle.std.specs.Prelude.{Bool, cond, List, ℕ, zero, suc, ◌-◌, ◌*◌}
use Rattle.parts.specs.Part.{part_at}
use Rattle.key.specs.Order.{compared, is_below}

-- Whether key i is above the one before it. Key i has `width` bytes from i * `stride` on.
unfoldable pub rises_at : List ℕ → (stride width i : ℕ) → Bool
rises_at keys stride width i =
    is_below (compared (part_at keys ((i - 1) * stride) width) (part_at keys (i * stride) width))

-- The first of the n keys from key i on that is not above the one before it, or the number after them.
unfoldable pub fall_from : List ℕ → (stride width i n : ℕ) → ℕ
fall_from keys stride width i zero = i
fall_from keys stride width i (suc n) = cond (rises_at keys stride width i) (fall_from keys stride width (suc i) n) i
