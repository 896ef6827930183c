-- Laws of the strings of a table, byte by byte and part by part.
use mathlib.Core.Path.{◌≡◌, refl, sym, ap, ap₂, ◌∙◌}
use mathlib.Core.Bool.{Bool, true, false, cond}
use mathlib.Core.List.{List, [], ◌∷◌, ◌++◌}
use Prim.Native.Nat.{ℕ, zero, suc, ◌+◌, ◌-◌, ◌≤◌, ◌<◌}
use native.Mathlib.Nat.{not-suc-le-zero, sub-zero}
use native.Mathlib.Numerals.{add-one}
use native.Mathlib.Decide.{dec_lt}
use native.Mathlib.Omega.{arith}
use borrow.Author.Tests.{eq-eqb, ne_eqb}
use lib.Dec.{eqb}
use lib.ListN.{length, drop, take-append-drop, drop_of_length-le}
use lib.Seq.{drop-cons, drop-drop}
use Rattle.parts.specs.Part.{byte_at, part_at}
use Rattle.parts.proofs.Laws.{part_at-length, part_at-clipped}
use Rattle.spec_table.specs.Specs.{count_of, start_of, before_zero, length_at}

-- ---- one byte more

-- the zero bytes that are left behind a byte, and that byte
pub still : (zero_byte : Bool) (m : ℕ) → cond zero_byte m (suc m) + cond zero_byte 1 0 ≡ suc m
still true m = omega arith
still false m = omega arith

module _ (t : List ℕ) (at : ℕ) (l : at < length t) where
  behind : drop at t ≡ byte_at t at ∷ drop (at + 1) t
  behind = rw add-one (drop-cons t at 0 l)

  module _ (is_zero : byte_at t at ≡ 0) where
    pub count-zero : count_of (drop at t) ≡ 1 + count_of (drop (at + 1) t)
    unfolding count_of
    count-zero = rw (behind, eq-eqb _ 0 is_zero)

    pub start-zero : (n : ℕ) → 0 < n → start_of (drop at t) n ≡ suc (start_of (drop (at + 1) t) (n - 1))
    unfolding start_of
    start-zero zero h = absurd (not-suc-le-zero h)
    start-zero (suc n) h =
        let less : suc n - 1 ≡ n = omega arith in
        rw (behind, eq-eqb _ 0 is_zero, less)

    pub length-zero : length_at t at ≡ 0
    unfolding length_at before_zero
    length-zero = rw (behind, eq-eqb _ 0 is_zero)

  module _ (is-other : byte_at t at ≡ 0 → ⊥) where
    pub count-other : count_of (drop at t) ≡ count_of (drop (at + 1) t)
    unfolding count_of
    count-other = rw (behind, ne_eqb _ 0 is-other) (omega arith)

    pub start-other : (n : ℕ) → 0 < n → start_of (drop at t) n ≡ suc (start_of (drop (at + 1) t) n)
    unfolding start_of
    start-other zero h = absurd (not-suc-le-zero h)
    start-other (suc n) h = rw (behind, ne_eqb _ 0 is-other)

    pub length-other : length_at t at ≡ 1 + length_at t (at + 1)
    unfolding length_at before_zero
    length-other = rw (behind, ne_eqb _ 0 is-other) (omega arith)

pub count-end : (t : List ℕ) (at : ℕ) → length t ≤ at → count_of (drop at t) ≡ 0
unfolding count_of
count-end t at h = ap count_of (drop_of_length-le t h)

pub start-end : (t : List ℕ) (at n : ℕ) → length t ≤ at → start_of (drop at t) n ≡ 0
unfolding start_of
start-end t at n h = ap (λ u. start_of u n) (drop_of_length-le t h)

pub length-end : (t : List ℕ) (at : ℕ) → length t ≤ at → length_at t at ≡ 0
unfolding length_at before_zero
length-end t at h = ap before_zero (drop_of_length-le t h)

pub start_first : (t : List ℕ) → start_of t 0 ≡ 0
unfolding start_of
start_first [] = refl
start_first (b ∷ t) = refl

-- ---- a part more

pub count-append : (a b : List ℕ) → count_of (a ++ b) ≡ count_of a + count_of b
unfolding count_of
count-append [] b = omega arith
count-append (x ∷ a) b = omega (arith, count-append a b)

pub start-append : (a b : List ℕ) (n : ℕ) → count_of a < n → start_of (a ++ b) n ≡ length a + start_of b (n - count_of a)
unfolding count_of start_of
start-append [] b n h = omega (arith, ap (start_of b) (sub-zero n))
start-append (x ∷ a) b zero h = absurd (not-suc-le-zero h)
start-append (x ∷ a) b (suc m) h =
    let left : ℕ = cond (eqb x 0) m (suc m) in
    let less : left - count_of a ≡ suc m - (cond (eqb x 0) 1 0 + count_of a) = omega (arith, still (eqb x 0) m) in
    omega (arith, start-append a b left (omega (arith, still (eqb x 0) m)), ap (start_of b) less)

pub count_most : (t : List ℕ) → count_of t ≤ length t
unfolding count_of
count_most [] = omega arith
count_most (b ∷ t) = omega (arith, count_most t, one-most (eqb b 0))
  where
    one-most : (z : Bool) → cond z 1 0 ≤ 1
    one-most true = omega arith
    one-most false = omega arith

-- a part from a place on is one of its own length
pub own-part : (t : List ℕ) (at n : ℕ) (block : List ℕ) → at < length t → block ≡ part_at t at n → block ≡ part_at t at (length block)
own-part t at n block l is =
    is ∙ sym (part_at-clipped t at n at (length block) (omega arith) (ap length is ∙ part_at-length t at n))

-- the rest of the table follows it
followed : (t : List ℕ) (at : ℕ) (block : List ℕ) → block ≡ part_at t at (length block) → drop at t ≡ block ++ drop (at + length block) t
followed t at block is =
    sym (take-append-drop (length block) (drop at t)) ∙ ap₂ ◌++◌ (sym is) (drop-drop (length block) at t)

-- ---- the zero bytes before a place

pub record Counted (t : List ℕ) (found at : ℕ) : Type 0 where
  pub few : found ≤ at
  pub all : count_of t ≡ found + count_of (drop at t)

pub counted_none : (t : List ℕ) → Counted t 0 0
counted_none t = record { few = omega arith; all = omega arith }

module _ {t : List ℕ} {found at : ℕ} (c : Counted t found at) where
  pub counted-zero : (next : ℕ) → next ≡ found + 1 → at < length t → byte_at t at ≡ 0 → Counted t next (at + 1)
  counted-zero next is l e = record { few = omega (arith, c.few); all = omega (arith, c.all, count-zero t at l e) }

  pub counted-other : (next : ℕ) → next ≡ found → at < length t → (byte_at t at ≡ 0 → ⊥) → Counted t next (at + 1)
  counted-other next is l e = record { few = omega (arith, c.few); all = omega (arith, c.all, count-other t at l e) }

  pub counted-block : (r : ℕ) (block : List ℕ) → block ≡ part_at t at (length block) → r ≡ count_of block → Counted t (found + r) (at + length block)
  counted-block r block is e = record {
    few = omega (arith, c.few, count_most block);
    all = omega (arith, c.all, ap count_of (followed t at block is), count-append block (drop (at + length block) t));
  }

  pub counted-all : length t ≤ at → found ≡ count_of t
  counted-all h = omega (arith, c.all, count-end t at h)

-- ---- a string that begins behind a place

pub record Begins (t : List ℕ) (number left at : ℕ) : Type 0 where
  pub start : start_of t number ≡ at + start_of (drop at t) left

pub begins-first : (t : List ℕ) (number : ℕ) → Begins t number number 0
begins-first t number = record { start = omega arith }

module _ {t : List ℕ} {number left at : ℕ} (b : Begins t number left at) where
  pub begins-zero : (next : ℕ) → next ≡ left - 1 → at < length t → 0 < left → byte_at t at ≡ 0 → Begins t number next (at + 1)
  begins-zero next is l h e = record { start = omega (arith, b.start, start-zero t at l e left h, ap (start_of (drop (at + 1) t)) is) }

  pub begins-other : (next : ℕ) → next ≡ left → at < length t → 0 < left → (byte_at t at ≡ 0 → ⊥) → Begins t number next (at + 1)
  begins-other next is l h e = record { start = omega (arith, b.start, start-other t at l e left h, ap (start_of (drop (at + 1) t)) is) }

  pub begins-block : (r : ℕ) (block : List ℕ) → block ≡ part_at t at (length block) → r ≡ count_of block → r < left
      → Begins t number (left - r) (at + length block)
  begins-block r block is e h = record {
    start =
        let here = ap (λ u. start_of u left) (followed t at block is) in
        let behind = drop (at + length block) t in
        omega (arith, b.start, here, start-append block behind left (omega arith), ap (λ k. start_of behind (left - k)) e);
  }

  pub begins-here : left ≡ 0 → at ≡ start_of t number
  begins-here e = omega (arith, b.start, ap (start_of (drop at t)) e, start_first (drop at t))

  pub begins-end : length t ≤ at → at ≡ start_of t number
  begins-end h = omega (arith, b.start, start-end t at left h)

-- ---- a string that is not closed before a place

pub record Unclosed (t : List ℕ) (at end : ℕ) : Type 0 where
  pub behind-start : at ≤ end
  pub long : length_at t at ≡ end - at + length_at t end

pub unclosed-none : (t : List ℕ) (at : ℕ) → Unclosed t at at
unclosed-none t at = record { behind-start = omega arith; long = omega arith }

module _ {t : List ℕ} {at end : ℕ} (u : Unclosed t at end) where
  pub unclosed-other : end < length t → (byte_at t end ≡ 0 → ⊥) → Unclosed t at (end + 1)
  unclosed-other l e =
      record { behind-start = omega (arith, u.behind-start); long = omega (arith, u.behind-start, u.long, length-other t end l e) }

  pub closed-here : end < length t → byte_at t end ≡ 0 → end - at ≡ length_at t at
  closed-here l e = omega (arith, u.long, length-zero t end l e)

  pub never-closed : length t ≤ end → (at ≤ length t → end ≤ length t) → length t - at ≡ length_at t at
  never-closed h m = go (dec_lt at (length t))
    where
      go : Dec (at < length t) → length t - at ≡ length_at t at
      go (yes l) = omega (arith, m (omega arith), u.long, length-end t end h)
      go (no l) = omega (arith, length-end t at (omega arith))
