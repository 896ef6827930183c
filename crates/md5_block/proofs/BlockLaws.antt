-- Laws of the definitions in specs/Block.antt.
use Rattle.std.proofs.Common.{◌≡◌, ℕ, zero, suc, ◌+◌, ◌-◌, ◌*◌, ◌/◌, ◌%◌, ◌<◌, ◌≤◌, Bool, true, ◌&&◌, ltb, List, [], ◌∷◌, ◌++◌, length, get_or, take, drop, set, replicate, sym, refl, ap, ◌∙◌, ap₂, le_of_suc-le-suc, not-suc-le-zero, add-zero, add_assoc, add-suc, suc-add, zero-add, add-one, arith, length-append, length-drop, get_or-drop, take_all, drop-drop, take-suc-set, ltb-true}
use mathlib.Core.Bool.{and-eq-true_iff}
use lib.ListN.{get_or-append}
use lib.Seq.{drop-append-le}
use Rattle.parts.specs.Part.{overlay}
use Rattle.parts.proofs.Laws.{overlay-zeros}
use Rattle.md5_block.specs.declared.Words.{Words}
use Rattle.std.specs.Int.{w32, rotate_left}
use Rattle.md5_block.specs.Block.{shifts, step, steps, word, words_of, sum, block, blocks, whole, rotated}

-- a round that is none of the first three is the fourth
pub past_two : (r : ℕ) → (r ≡ 0 → ⊥) → (r ≡ 1 → ⊥) → (r ≡ 2 → ⊥) → (n : ℕ) × (r ≡ suc (suc (suc n)))
past_two zero p q s = absurd (p refl)
past_two (suc zero) p q s = absurd (q refl)
past_two (suc (suc zero)) p q s = absurd (s refl)
past_two (suc (suc (suc n))) p q s = (n, refl)

module _ (t x : List ℕ) (i : ℕ) where
  -- one step more
  pub next : (n : ℕ) (v : Words) {w u : Words} → w ≡ steps t x i n v → u ≡ step t x (i + n) w → u ≡ steps t x i (suc n) v
  unfolding steps
  next n v p q = q ∙ ap (step t x (i + n)) p

  -- four steps, one after the other
  pub four_is : (v : Words) {w1 w2 w3 w4 : Words} → w1 ≡ step t x i v → w2 ≡ step t x (i + 1) w1 → w3 ≡ step t x (i + 2) w2 → w4 ≡ step t x (i + 3) w3
      → w4 ≡ steps t x i 4 v
  unfolding steps
  four_is v {w1} e1 e2 e3 e4 =
      let e0 : w1 ≡ step t x (i + 0) v = e1 ∙ ap (λ k. step t x k v) (sym (add-zero i)) in
      next 3 v (next 2 v (next 1 v (next 0 v refl e0) e2) e3) e4

  -- steps in two runs
  pub steps-add : (m n : ℕ) (w : Words) → steps t x i (m + n) w ≡ steps t x (i + m) n (steps t x i m w)
  unfolding steps
  steps-add m zero w = rw add-zero
  steps-add m (suc n) w = rw (add-suc m n) (rw (← add_assoc i m n) (ap (step t x (i + m + n)) (steps-add m n w)))

  pub more : (m n : ℕ) (v : Words) {w u : Words} → w ≡ steps t x i m v → u ≡ steps t x (i + m) n w → u ≡ steps t x i (m + n) v
  more m n v p q = q ∙ ap (steps t x (i + m) n) p ∙ sym (steps-add m n v)

-- sixteen groups of four steps, one after the other
module _ (t x : List ℕ) where
  more-four : (m : ℕ) (v : Words) {w u : Words} → w ≡ steps t x 0 m v → u ≡ steps t x m 4 w → u ≡ steps t x 0 (m + 4) v
  more-four m v {w} p q = more t x 0 m 4 v p (q ∙ ap (λ i. steps t x i 4 w) (sym (zero-add m)))

  pub all-steps : (v : Words) {w1 w2 w3 w4 w5 w6 w7 w8 w9 w10 w11 w12 w13 w14 w15 w16 : Words}
      → w1 ≡ steps t x 0 4 v
      → w2 ≡ steps t x 4 4 w1
      → w3 ≡ steps t x 8 4 w2
      → w4 ≡ steps t x 12 4 w3
      → w5 ≡ steps t x 16 4 w4
      → w6 ≡ steps t x 20 4 w5
      → w7 ≡ steps t x 24 4 w6
      → w8 ≡ steps t x 28 4 w7
      → w9 ≡ steps t x 32 4 w8
      → w10 ≡ steps t x 36 4 w9
      → w11 ≡ steps t x 40 4 w10
      → w12 ≡ steps t x 44 4 w11
      → w13 ≡ steps t x 48 4 w12
      → w14 ≡ steps t x 52 4 w13
      → w15 ≡ steps t x 56 4 w14
      → w16 ≡ steps t x 60 4 w15
      → w16 ≡ steps t x 0 64 v
  all-steps v e1 e2 e3 e4 e5 e6 e7 e8 e9 e10 e11 e12 e13 e14 e15 e16 =
      more-four 60 v (more-four 56 v (more-four 52 v (more-four 48 v (more-four 44 v
      (more-four 40 v (more-four 36 v (more-four 32 v (more-four 28 v (more-four 24 v
      (more-four 20 v (more-four 16 v (more-four 12 v (more-four 8 v (more-four 4 v e1
      e2) e3) e4) e5) e6) e7) e8) e9) e10) e11) e12) e13) e14) e15) e16

-- the place of a step's shift amount, in a group of four
pub row-start : (g : ℕ) → g % 16 * 4 / 16 * 4 ≡ g % 16 * 4 / 16 * 4 + g % 16 * 4 % 4
row-start g = omega arith

pub row_of : (g j : ℕ) → j < 4 → g % 16 * 4 / 16 * 4 + j ≡ (g % 16 * 4 + j) / 16 * 4 + (g % 16 * 4 + j) % 4
row_of g j h = omega arith

-- one word more, at the end
pub words_snoc : (n : ℕ) (s : List ℕ) → words_of (suc n) s ≡ words_of n s ++ (word (drop (4 * n) s) ∷ [])
unfolding words_of
words_snoc zero s = refl
words_snoc (suc n) s =
    let e : 4 + 4 * n ≡ 4 * suc n = omega arith in
    ap (λ l. word s ∷ l)
    (words_snoc n (drop 4 s) ∙ ap (λ d. words_of n (drop 4 s) ++ (word d ∷ [])) (drop-drop (4 * n) 4 s ∙ ap (λ k. drop k s) e))

-- a turn of the loop that stores the words
pub word-stored : (s : List ℕ) (i : ℕ) (x : List ℕ) (v : ℕ) → i < length x → take i x ≡ words_of i s → v ≡ word (drop (4 * i) s)
    → take (i + 1) (set x i v) ≡ words_of (i + 1) s
word-stored s i x v h p q = rw (add-one i) (take-suc-set x i v h ∙ ap₂ (λ l a. l ++ (a ∷ [])) p q ∙ sym (words_snoc i s))

pub words-all : (s x : List ℕ) (i : ℕ) → 16 ≤ i → i ≤ 16 → length x ≡ 16 → take i x ≡ words_of i s → x ≡ words_of 16 s
words-all s x i g h p q =
    let e : i ≡ 16 = omega arith in
    let k : length x ≤ i = omega arith in
    sym (take_all i x k) ∙ q ∙ ap (λ n. words_of n s) e

-- a test that holds of each element of a list holds at each place
abbrev every : (ℕ → Bool) → List ℕ → Bool
every f [] = true
every f (y ∷ ys) = f y && every f ys

at_place : (f : ℕ → Bool) (l : List ℕ) → every f l ≡ true → (k : ℕ) → k < length l → f (get_or l k 0) ≡ true
at_place f [] e k h = absurd (not-suc-le-zero h)
at_place f (y ∷ ys) e zero h = ((and-eq-true_iff (f y) (every f ys)).0 e).0
at_place f (y ∷ ys) e (suc k) h = at_place f ys ((and-eq-true_iff (f y) (every f ys)).0 e).1 k (le_of_suc-le-suc h)

-- each shift amount is from 1 to 31
pub shift-range : (k : ℕ) → k < 16 → (0 < get_or shifts k 0) × (get_or shifts k 0 < 32)
unfolding shifts
shift-range k h =
    (ltb-true _ _ (at_place (λ y. ltb 0 y) shifts refl k h), ltb-true _ _ (at_place (λ y. ltb y 32) shifts refl k h))

-- the rotation of std, by a shift amount
pub rotated-is : (x s : ℕ) → (0 < s) × (s < 32) → rotate_left w32 x s ≡ rotated x s
rotated-is x s h =
    let up : s % 32 ≡ s = omega arith in
    let down : (32 - s) % 32 ≡ 32 - s = omega arith in
    rw (up, down)

-- one block: sixteen groups of four steps, and the sum with the words before it
pub block-is : (t x : List ℕ) (w : Words) {e r : Words} → e ≡ steps t x 0 64 w → r ≡ sum w e → r ≡ block t x w
unfolding block
block-is t x w p q = q ∙ ap (sum w) p

word-agree : (s t : List ℕ) → ((i : ℕ) → i < 4 → get_or s i 0 ≡ get_or t i 0) → word s ≡ word t
unfolding word
word-agree s t h = rw (h 0 (omega arith), h 1 (omega arith), h 2 (omega arith), h 3 (omega arith))

-- the first n words are those of the first 4 n bytes
pub words-agree : (n : ℕ) (s t : List ℕ) → ((i : ℕ) → i < 4 * n → get_or s i 0 ≡ get_or t i 0) → words_of n s ≡ words_of n t
unfolding words_of
words-agree zero s t h = refl
words-agree (suc n) s t h =
    ap₂ (λ v l. v ∷ l) (word-agree s t (λ i k. h i (omega arith)))
    (words-agree n (drop 4 s) (drop 4 t) (λ i k. get_or-drop 4 s i 0 ∙ h (4 + i) (omega arith) ∙ sym (get_or-drop 4 t i 0)))

-- fewer than 64 bytes, with zeros after them
pub words-padded : (s t : List ℕ) → t ≡ overlay (replicate 64 0) 0 s → words_of 16 t ≡ words_of 16 s
words-padded s t e = ap (words_of 16) e ∙ words-agree 16 (overlay (replicate 64 0) 0 s) s (λ i h. overlay-zeros 64 s i h)

words-front : (a b : List ℕ) → 64 ≤ length a → words_of 16 (a ++ b) ≡ words_of 16 a
words-front a b h = words-agree 16 (a ++ b) a (λ i k. get_or-append a b 0 i (omega arith))

module _ (t : List ℕ) where
  -- whole blocks, and then those of what follows them
  pub blocks-append : (n m : ℕ) (a b : List ℕ) (w : Words) → length a ≡ 64 * n → blocks t (n + m) (a ++ b) w ≡ blocks t m b (blocks t n a w)
  unfolding blocks
  blocks-append zero m [] b w h = rw zero-add
  blocks-append zero m (y ∷ a) b w h = absurd (omega arith)
  blocks-append (suc n) m a b w h =
      let k : 64 ≤ length a = omega arith in
      ap (λ i. blocks t i (a ++ b) w) (suc-add n m) ∙ ap₂ (blocks t (n + m)) (drop-append-le 64 a b k) (ap (λ x. block t x w) (words-front a b k))
      ∙ blocks-append n m (drop 64 a) b (block t (words_of 16 a) w) (length-drop 64 a ∙ omega arith)

  pub whole_append : (n : ℕ) (a b : List ℕ) (w : Words) → length a ≡ 64 * n → whole t (a ++ b) w ≡ whole t b (blocks t n a w)
  whole_append n a b w h =
      let e : length (a ++ b) / 64 ≡ n + length b / 64 = rw length-append (omega arith) in
      rw e (blocks-append n (length b / 64) a b w h)

  -- less than a block, and one block
  pub whole-none : (s : List ℕ) (w : Words) → length s < 64 → whole t s w ≡ w
  unfolding blocks
  whole-none s w h =
      let none : length s / 64 ≡ 0 = omega arith in
      ap (λ i. blocks t i s w) none

  pub whole-one : (s : List ℕ) (w : Words) → length s ≡ 64 → whole t s w ≡ block t (words_of 16 s) w
  unfolding blocks
  whole-one s w h =
      let one : length s / 64 ≡ 1 = omega arith in
      ap (λ i. blocks t i s w) one

  -- a turn of the loop over whole blocks: r is what they come to, from `at` on
  pub one_block : (s : List ℕ) (at : ℕ) (x : List ℕ) (e v r : Words) → 64 ≤ length s - at → r ≡ blocks t ((length s - at) / 64) (drop at s) e
      → x ≡ words_of 16 (drop at s) → v ≡ block t x e → r ≡ blocks t ((length s - (at + 64)) / 64) (drop (at + 64) s) v
  unfolding blocks
  one_block s at x e v r h q p b =
      let n : (length s - at) / 64 ≡ suc ((length s - (at + 64)) / 64) = omega arith in
      q ∙ ap (λ i. blocks t i (drop at s) e) n
      ∙ ap₂ (blocks t ((length s - (at + 64)) / 64)) (drop-drop 64 at s) (ap (λ y. block t y e) (sym p) ∙ sym b)

  -- the loop's end
  pub no_block : (s : List ℕ) (at : ℕ) (e r : Words) → length s - at < 64 → r ≡ blocks t ((length s - at) / 64) (drop at s) e → e ≡ r
  unfolding blocks
  no_block s at e r h q =
      let n : (length s - at) / 64 ≡ 0 = omega arith in
      sym (q ∙ ap (λ i. blocks t i (drop at s) e) n)
