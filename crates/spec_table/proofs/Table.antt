-- Of any table: how many strings there are, where each stands, and that a zero byte closes it. Of any strings: a run of them is
-- split into them.
use mathlib.Core.Path.{◌≡◌, refl, sym, ap, ◌∙◌}
use mathlib.Core.Bool.{Bool, true, false, cond}
use mathlib.Core.List.{List, [], ◌∷◌, ◌++◌}
use Prim.Native.Nat.{ℕ, zero, suc, ◌+◌, ◌≤◌, ◌<◌, min}
use native.Mathlib.Nat.{not-suc-le-zero}
use native.Mathlib.Decide.{dec_lt}
use native.Mathlib.Omega.{arith}
use borrow.Author.Tests.{eqb-true, lt-ltb, le-ltb}
use lib.Dec.{eqb}
use lib.ListN.{length, get_or, take, drop, length-drop, get_or-eq_default}
use lib.Seq.{get_or-drop}
use Rattle.parts.specs.Part.{part_at}
use Rattle.parts.proofs.Laws.{part_at-inside}
use Rattle.spec_table.specs.Specs.{run_of, in_front, strings, spec_of, count_of, start_of, place_of, before_zero, length_at, Closed, SpecTable, RunSplit}
use Rattle.spec_table.proofs.Laws.{still}

-- ---- a byte in front of strings

in-front-length : (z : Bool) (b : ℕ) (more : List (List ℕ)) → length (in_front z b more) ≡ cond z 1 0 + length more
unfolding in_front
in-front-length true b more = omega arith
in-front-length false b [] = refl
in-front-length false b (s ∷ more) = omega arith

in-front-later : (z : Bool) (b : ℕ) (more : List (List ℕ)) (m : ℕ) → get_or (in_front z b more) (suc m) [] ≡ get_or more (cond z m (suc m)) []
unfolding in_front
in-front-later true b more m = refl
in-front-later false b [] m = refl
in-front-later false b (s ∷ more) m = refl

pub strings-counted : (t : List ℕ) → length (strings t) ≡ count_of t
unfolding strings count_of
strings-counted [] = refl
strings-counted (b ∷ t) = in-front-length (eqb b 0) b (strings t) ∙ ap (λ n. cond (eqb b 0) 1 0 + n) (strings-counted t)

-- ---- the first string, up to the first zero byte

abbrev up_to_zero : List ℕ → List ℕ
up_to_zero t = take (before_zero t) t

first-in-front : (z : Bool) (b : ℕ) (t : List ℕ) (more : List (List ℕ)) → 0 < cond z 1 0 + length more → (0 < length more → up_to_zero t ≡ get_or more 0 [])
    → take (cond z 0 (suc (before_zero t))) (b ∷ t) ≡ get_or (in_front z b more) 0 []
unfolding in_front
first-in-front true b t more h first = refl
first-in-front false b t [] h first = absurd (omega arith)
first-in-front false b t (s ∷ more) h first = ap (λ (r : List ℕ). b ∷ r) (first (omega arith))

first-string : (t : List ℕ) → 0 < length (strings t) → up_to_zero t ≡ spec_of t 0
unfolding strings before_zero
first-string [] h = absurd (not-suc-le-zero h)
first-string (b ∷ t) h =
    first-in-front (eqb b 0) b t (strings t) (omega (arith, in-front-length (eqb b 0) b (strings t))) (first-string t)

-- ---- string n, behind n zero bytes

pub spec-part : (t : List ℕ) (n : ℕ) → n < count_of t → part_at t (start_of t n) (length_at t (start_of t n)) ≡ spec_of t n
unfolding strings count_of start_of length_at
spec-part [] n h = absurd (not-suc-le-zero h)
spec-part (b ∷ t) zero h = first-string (b ∷ t) (omega (arith, strings-counted (b ∷ t)))
spec-part (b ∷ t) (suc m) h =
    spec-part t (cond (eqb b 0) m (suc m)) (omega (arith, still (eqb b 0) m)) ∙ sym (in-front-later (eqb b 0) b (strings t) m)

-- ---- the zero byte behind it

zero-step : (z : Bool) (b : ℕ) (t : List ℕ) → eqb b 0 ≡ z → 0 < cond z 1 0 + count_of t → (0 < count_of t → Closed t (before_zero t))
    → Closed (b ∷ t) (cond z 0 (suc (before_zero t)))
zero-step true b t e h more = record { inside = omega arith; zero_byte = eqb-true b 0 e }
zero-step false b t e h more =
    let c = more (omega arith) in
    record { inside = omega (arith, c.inside); zero_byte = c.zero_byte }

none-step : (z : Bool) (t : List ℕ) → cond z 1 0 + count_of t ≡ 0 → (count_of t ≡ 0 → before_zero t ≡ length t)
    → cond z 0 (suc (before_zero t)) ≡ suc (length t)
none-step true t h more = absurd (omega arith)
none-step false t h more = ap suc (more (omega arith))

-- the first zero byte of any bytes, or their end
zero-inside : (t : List ℕ) → 0 < count_of t → Closed t (before_zero t)
unfolding count_of before_zero
zero-inside [] h = absurd (not-suc-le-zero h)
zero-inside (b ∷ t) h = zero-step (eqb b 0) b t refl h (zero-inside t)

none_inside : (t : List ℕ) → count_of t ≡ 0 → before_zero t ≡ length t
unfolding count_of before_zero
none_inside [] h = refl
none_inside (b ∷ t) h = none-step (eqb b 0) t h (none_inside t)

-- the zero bytes from string n on
zero_left : (t : List ℕ) (n : ℕ) → n < count_of t → 0 < count_of (drop (start_of t n) t)
unfolding count_of start_of
zero_left [] n h = absurd (not-suc-le-zero h)
zero_left (b ∷ t) zero h = h
zero_left (b ∷ t) (suc m) h = zero_left t (cond (eqb b 0) m (suc m)) (omega (arith, still (eqb b 0) m))

none_left : (t : List ℕ) (n : ℕ) → count_of t ≤ n → count_of (drop (start_of t n) t) ≡ 0
unfolding count_of start_of
none_left [] n h = refl
none_left (b ∷ t) zero h = omega arith
none_left (b ∷ t) (suc m) h = none_left t (cond (eqb b 0) m (suc m)) (omega (arith, still (eqb b 0) m))

pub start-inside : (t : List ℕ) (n : ℕ) → start_of t n ≤ length t
unfolding start_of
start-inside [] n = omega arith
start-inside (b ∷ t) zero = omega arith
start-inside (b ∷ t) (suc m) = omega (arith, start-inside t (cond (eqb b 0) m (suc m)))

module _ (t : List ℕ) (n : ℕ) where
  pub spec-closed : n < count_of t → Closed t (start_of t n + length_at t (start_of t n))
  unfolding length_at
  spec-closed h =
      let at : ℕ = start_of t n in
      let c = zero-inside (drop at t) (zero_left t n h) in
      record {
        inside = omega (arith, c.inside, length-drop at t);
        zero_byte = sym (get_or-drop at t (before_zero (drop at t)) 0) ∙ c.zero_byte;
      }

  -- a string that is not there ends with the table
  pub spec-past : count_of t ≤ n → start_of t n + length_at t (start_of t n) ≡ length t
  unfolding length_at
  spec-past h =
      let at : ℕ = start_of t n in
      omega (arith, none_inside (drop at t) (none_left t n h), length-drop at t, start-inside t n)

-- every table
pub spec-table : (t : List ℕ) → SpecTable t
spec-table t = record { counted = strings-counted t; part = spec-part t; closed = spec-closed t }

-- ---- a string that is asked for by its number

module _ (t : List ℕ) (n at count : ℕ) (start : at ≡ start_of t n) (long : count ≡ length_at t at) where
  end : at + count ≡ start_of t n + length_at t (start_of t n)
  end = omega (arith, ap (length_at t) start)

  pub ends-inside : at + count ≤ length t
  ends-inside = go (dec_lt n (count_of t))
    where
      go : Dec (n < count_of t) → at + count ≤ length t
      go (yes h) = omega (arith, end, (spec-closed t n h).inside)
      go (no h) = omega (arith, end, spec-past t n (omega arith))

  pub string-there : at + count < length t → part_at t at count ≡ spec_of t n
  string-there l = go (dec_lt n (count_of t))
    where
      go : Dec (n < count_of t) → part_at t at count ≡ spec_of t n
      go (yes h) = rw (long, start) (spec-part t n h)
      go (no h) = absurd (omega (arith, end, spec-past t n (omega arith)))

  pub string-past : length t ≤ at + count → spec_of t n ≡ []
  string-past l = go (dec_lt n (count_of t))
    where
      go : Dec (n < count_of t) → spec_of t n ≡ []
      go (yes h) = absurd (omega (arith, end, (spec-closed t n h).inside))
      go (no h) = get_or-eq_default (strings t) [] (omega (arith, strings-counted t))

-- the strings before it, with their zero bytes, are the bytes before it
front-run : (z : Bool) (b n : ℕ) (more : List (List ℕ)) → suc n < cond z 1 0 + length more
    → length (run_of (take (suc n) (in_front z b more))) ≡ suc (length (run_of (take (cond z n (suc n)) more)))
unfolding in_front run_of
front-run true b n more h = refl
front-run false b n [] h = absurd (omega arith)
front-run false b n (string ∷ more) h = refl

pub start-run : (t : List ℕ) (n : ℕ) → n < count_of t → length (run_of (take n (strings t))) ≡ start_of t n
unfolding strings count_of start_of run_of
start-run [] n h = absurd (not-suc-le-zero h)
start-run (b ∷ t) zero h = refl
start-run (b ∷ t) (suc m) h =
    front-run (eqb b 0) b m (strings t) (omega (arith, strings-counted t))
    ∙ ap suc (start-run t (cond (eqb b 0) m (suc m)) (omega (arith, still (eqb b 0) m)))

pub spec-long : (t : List ℕ) (n : ℕ) → n < count_of t → length (spec_of t n) ≡ length_at t (start_of t n)
spec-long t n h =
    ap length (sym (spec-part t n h)) ∙ part_at-inside t (start_of t n) (length_at t (start_of t n)) (omega (arith, (spec-closed t n h).inside))

-- where it stands
module _ (t : List ℕ) (n : ℕ) where
  pub place-there : n < count_of t → place_of t n ≡ start_of t n
  unfolding place_of
  place-there l = rw (lt-ltb n (count_of t) l)

  pub place-past : count_of t ≤ n → place_of t n ≡ 0
  unfolding place_of
  place-past l = rw (le-ltb n (count_of t) l)

module _ (t : List ℕ) (n at count : ℕ) (start : at ≡ start_of t n) (long : count ≡ length_at t at) where
  pub string-at : at + count < length t → min at (length t) ≡ place_of t n
  string-at l = go (dec_lt n (count_of t))
    where
      go : Dec (n < count_of t) → min at (length t) ≡ place_of t n
      go (yes h) = omega (arith, place-there t n h)
      go (no h) = absurd (omega (arith, end t n at count start long, spec-past t n (omega arith)))

  pub string-nowhere : length t ≤ at + count → place_of t n ≡ 0
  string-nowhere l = go (dec_lt n (count_of t))
    where
      go : Dec (n < count_of t) → place_of t n ≡ 0
      go (yes h) = absurd (omega (arith, end t n at count start long, (spec-closed t n h).inside))
      go (no h) = place-past t n (omega arith)

-- ---- a run of strings

front-step : (z : Bool) (b : ℕ) (string : List ℕ) (more rest : List (List ℕ)) → cond z 1 0 + count_of string ≡ 0 → rest ≡ string ∷ more
    → in_front z b rest ≡ (b ∷ string) ∷ more
unfolding in_front
front-step true b string more rest h e = absurd (omega arith)
front-step false b string more rest h e = ap (in_front false b) e

-- a string without a zero byte, closed by one
one-closed : (string t : List ℕ) → count_of string ≡ 0 → strings (string ++ (0 ∷ t)) ≡ string ∷ strings t
unfolding strings in_front count_of
one-closed [] t h = refl
one-closed (b ∷ string) t h =
    front-step (eqb b 0) b string (strings t) (strings (string ++ (0 ∷ t))) h (one-closed string t (omega arith))

pub run-split : RunSplit
unfolding run_of strings
run-split [] h = refl
run-split (string ∷ more) h =
    one-closed string (run_of more) (h 0) ∙ ap (λ (rest : List (List ℕ)). string ∷ rest) (run-split more (λ n. h (suc n)))
