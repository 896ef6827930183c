-- Laws of separated text, byte by byte and field by field.
use mathlib.Core.Path.{◌≡◌, sym, ap}
use mathlib.Core.Bool.{Bool, true, false, not, false≢true}
use mathlib.Core.List.{List, ◌∷◌}
use Prim.Native.Nat.{ℕ, ◌+◌, ◌≤◌, ◌<◌}
use native.Mathlib.Numerals.{add-one}
use native.Mathlib.Omega.{arith}
use native.Mathlib.Decide.{dec_lt}
use borrow.Author.Tests.{eq-eqb, ne_eqb}
use lib.ListN.{length, drop, drop_of_length-le, get_or-eq_default}
use lib.Seq.{drop-cons}
use Rattle.parts.specs.Part.{byte_at}
use Rattle.std.specs.Prelude.{Some, None}
use Rattle.worklist.specs.Rows.{quote, stops, stop_from, stop_at, closing_from}

-- ---- one byte more

-- a byte that is not 0 stands before the end
pub there : (t : List ℕ) (at b : ℕ) → b ≡ byte_at t at → 0 < b → at < length t
there t at b e h = go (dec_lt at (length t))
  where
    go : Dec (at < length t) → at < length t
    go (yes l) = l
    go (no l) = absurd (omega (arith, e, get_or-eq_default t 0 {n = at} (omega arith)))

pub behind : (t : List ℕ) (at : ℕ) → at < length t → drop at t ≡ byte_at t at ∷ drop (at + 1) t
behind t at l = rw add-one (drop-cons t at 0 l)

module _ (sep : ℕ) (t : List ℕ) (at : ℕ) where
  pub stop-here : at < length t → stops sep (byte_at t at) ≡ true → stop_at sep t at ≡ at
  unfolding stop_from
  stop-here l e = rw (behind t at l, e)

  pub stop-later : at < length t → stops sep (byte_at t at) ≡ false → stop_at sep t at ≡ stop_at sep t (at + 1)
  unfolding stop_from
  stop-later l e = rw (behind t at l, e)

  pub stop-end : length t ≤ at → stop_at sep t at ≡ at
  unfolding stop_from
  stop-end h = ap (stop_from sep at) (drop_of_length-le t h)

-- ---- the closing quote

module _ (t : List ℕ) (at : ℕ) where
  pub closing-quote : (pending : Bool) → at < length t → byte_at t at ≡ quote
      → closing_from pending at (drop at t) ≡ closing_from (not pending) (at + 1) (drop (at + 1) t)
  unfolding closing_from
  closing-quote false l e =
      rw (behind t at l) (ap (λ b. closing_from b (at + 1) (drop (at + 1) t)) (eq-eqb (byte_at t at) quote e))
  closing-quote true l e = rw (behind t at l, eq-eqb _ quote e)

  pub closing-other : (pending : Bool) → pending ≡ false → at < length t → (byte_at t at ≡ quote → ⊥)
      → closing_from pending at (drop at t) ≡ closing_from pending (at + 1) (drop (at + 1) t)
  unfolding closing_from
  closing-other false p l e =
      rw (behind t at l) (ap (λ b. closing_from b (at + 1) (drop (at + 1) t)) (ne_eqb (byte_at t at) quote e))
  closing-other true p l e = absurd (false≢true (sym p))

  pub closing-here : (pending : Bool) → pending ≡ true → at < length t → (byte_at t at ≡ quote → ⊥)
      → closing_from pending at (drop at t) ≡ Some at
  unfolding closing_from
  closing-here pending p l e = rw (p, behind t at l, ne_eqb _ quote e)

  pub closing_end : (pending : Bool) → pending ≡ true → length t ≤ at → closing_from pending at (drop at t) ≡ Some at
  unfolding closing_from
  closing_end pending p h = rw (p, drop_of_length-le t h)

  pub closing-never : (pending : Bool) → pending ≡ false → length t ≤ at → closing_from pending at (drop at t) ≡ None
  unfolding closing_from
  closing-never pending p h = rw (p, drop_of_length-le t h)
