-- Laws of numbered parts, one after the other, and of output that they fill from its start.
use mathlib.Core.Path.{◌≡◌, refl, sym, ap, ap₂, ◌∙◌}
use mathlib.Core.List.{List, [], ◌++◌, append_assoc, append-nil}
use Prim.Native.Nat.{ℕ, zero, suc, ◌+◌, ◌-◌, ◌*◌, ◌≤◌, ◌<◌}
use native.Mathlib.Nat.{le_trans, zero-add, add-zero, add-suc, suc-add, suc-mul, zero-mul}
use native.Mathlib.Numerals.{add-one-le}
use native.Mathlib.Omega.{arith}
use lib.ListN.{length, take, drop, length-append, length-drop}
use lib.Seq.{take-append_seam, drop-append-add, drop-drop, take-add}
use Rattle.parts.specs.Part.{part_at, overlay, parts_from}
use Rattle.parts.proofs.Laws.{overlay-next, overlay-after}

-- output that is filled so far keeps its length
pub filled-length : (done out old : List ℕ) → old ≡ done ++ drop (length done) out → length done ≤ length out → length old ≡ length out
filled-length done out old e h =
    ap length e ∙ length-append done (drop (length done) out) ∙ ap (λ n. length done + n) (length-drop (length done) out) ∙ omega arith

-- a part of two runs of bytes that starts in the second
pub part-after : (a b : List ℕ) (at n count : ℕ) → length a ≡ n → part_at (a ++ b) (n + at) count ≡ part_at b at count
part-after a b at n count e = rw (← e) (ap (take count) (drop-append-add a b at))

-- a part of c and m bytes
pub part-add : (s : List ℕ) (at c m : ℕ) → part_at s at (c + m) ≡ part_at s at c ++ part_at s (at + c) m
part-add s at c m = take-add c m (drop at s) ∙ ap (λ r. take c (drop at s) ++ take m r) (drop-drop c at s)

-- the parts are the same where each is
pub parts_same : (f g : ℕ → List ℕ) (i n : ℕ) → ((j : ℕ) → i ≤ j → j < i + n → f j ≡ g j) → parts_from f i n ≡ parts_from g i n
unfolding parts_from
parts_same f g i zero h = refl
parts_same f g i (suc n) h =
    ap₂ ◌++◌ (h i (omega arith) (omega arith)) (parts_same f g (suc i) n (λ j a b. h j (omega arith) (omega arith)))

-- the parts of a run of bytes, each of c bytes
pub parts-of : (s : List ℕ) (c i n : ℕ) → parts_from (λ p. part_at s (p * c) c) i n ≡ part_at s (i * c) (n * c)
unfolding parts_from
parts-of s c i zero = rw (zero-mul c)
parts-of s c i (suc n) =
    let swap : suc n * c ≡ c + n * c = suc-mul n c ∙ omega arith in
    rw (swap, parts-of s c (suc i) n, take-add c (n * c) (drop (i * c) s), drop-drop c (i * c) s, suc-mul i c)

module _ (f : ℕ → List ℕ) where
  pub parts-append : (p m n : ℕ) → parts_from f p (m + n) ≡ parts_from f p m ++ parts_from f (p + m) n
  unfolding parts_from
  parts-append p zero n = rw (zero-add n, add-zero p)
  parts-append p (suc m) n =
      rw (suc-add m n)
      (ap (λ r. f p ++ r) (parts-append (suc p) m n ∙ ap (λ i. parts_from f (suc p) m ++ parts_from f i n) (suc-add p m ∙ sym (add-suc p m)))
      ∙ sym (append_assoc (f p) (parts_from f (suc p) m) (parts_from f (p + suc m) n)))

  -- one part more
  pub parts_next : (p : ℕ) → parts_from f 0 (p + 1) ≡ parts_from f 0 p ++ f p
  unfolding parts_from
  parts_next p = parts-append 0 p 1 ∙ ap (λ i. parts_from f 0 p ++ (f i ++ [])) (zero-add p) ∙ ap (λ r. parts_from f 0 p ++ r) (append-nil (f p))

  -- what is written so far has room where the whole has
  pub parts-room : (p n : ℕ) → p ≤ n → length (parts_from f 0 p) ≤ length (parts_from f 0 n)
  parts-room p n h =
      let e : p + (n - p) ≡ n = omega arith in
      omega (
        arith,
        ap (λ i. length (parts_from f 0 i)) (sym e) ∙ ap length (parts-append 0 p (n - p)) ∙ length-append (parts_from f 0 p) (parts_from f (0 + p) (n - p)),
      )

  -- a turn of a loop that writes one part more after those so far
  pub part-turn : (p n : ℕ) (part out old : List ℕ) (to : ℕ) → p < n → length (parts_from f 0 n) ≤ length out → part ≡ f p
      → to ≡ length (parts_from f 0 p) → old ≡ parts_from f 0 p ++ drop (length (parts_from f 0 p)) out
      → (to + length part ≡ length (parts_from f 0 (p + 1)))
      × (overlay old to part ≡ parts_from f 0 (p + 1) ++ drop (length (parts_from f 0 (p + 1))) out)
  part-turn p n part out old to h room e t g =
      let next : parts_from f 0 p ++ part ≡ parts_from f 0 (p + 1) = ap (λ r. parts_from f 0 p ++ r) e ∙ sym (parts_next p) in
      let size : length (parts_from f 0 p ++ part) ≤ length out = rw next (le_trans (parts-room (p + 1) n (add-one-le h)) room) in (
        ap (λ n. n + length part) t ∙ sym (length-append (parts_from f 0 p) part) ∙ ap length next,
        overlay-next (parts_from f 0 p) part out old to g t size ∙ ap (λ r. r ++ drop (length r) out) next,
      )

  -- the same with the bytes laid over others from an offset on
  pub part-laid : (p : ℕ) (part out old : List ℕ) (at to : ℕ) → part ≡ f p → to ≡ at + length (parts_from f 0 p) → old ≡ overlay out at (parts_from f 0 p)
      → (to + length part ≡ at + length (parts_from f 0 (p + 1))) × (overlay old to part ≡ overlay out at (parts_from f 0 (p + 1)))
  part-laid p part out old at to e t g =
      let next : parts_from f 0 p ++ part ≡ parts_from f 0 (p + 1) = ap (λ r. parts_from f 0 p ++ r) e ∙ sym (parts_next p) in (
        omega (arith, t, length-append (parts_from f 0 p) part, ap length next),
        ap₂ (λ o n. overlay o n part) g t ∙ overlay-after out at (parts_from f 0 p) part ∙ ap (overlay out at) next,
      )

-- parts of one size
module _ (f : ℕ → List ℕ) (c : ℕ) where
  pub parts-length : (i n : ℕ) → ((j : ℕ) → i ≤ j → j < i + n → length (f j) ≡ c) → length (parts_from f i n) ≡ n * c
  unfolding parts_from
  parts-length i zero h = sym (zero-mul c)
  parts-length i (suc n) h =
      length-append (f i) (parts_from f (suc i) n)
      ∙ ap₂ ◌+◌ (h i (omega arith) (omega arith)) (parts-length (suc i) n (λ j a b. h j (omega arith) (omega arith)))
      ∙ rw (suc-mul n c) (omega arith)

  -- part p of n, where those before it have c bytes each, with other bytes after them
  pub parts_at : (n : ℕ) (rest : List ℕ) (p : ℕ) → p < n → ((j : ℕ) → j < p → length (f j) ≡ c) → part_at (parts_from f 0 n ++ rest) (p * c) (length (f p)) ≡ f p
  unfolding parts_from
  parts_at n rest p l h =
      let e : n ≡ p + (1 + (n - p - 1)) = omega arith in
      let front : length (parts_from f 0 p) ≡ p * c = parts-length 0 p (λ j a b. h j (omega arith)) in
      let split : parts_from f 0 n ++ rest ≡ parts_from f 0 p ++ (f p ++ (parts_from f (p + 1) (n - p - 1) ++ rest)) =
      ap (λ r. r ++ rest) (ap (parts_from f 0) e ∙ parts-append f 0 p (1 + (n - p - 1)) ∙ ap (λ r. parts_from f 0 p ++ r)
      (ap (λ i. parts_from f i (1 + (n - p - 1))) (zero-add p) ∙ parts-append f p 1 (n - p - 1)
      ∙ ap (λ r. r ++ parts_from f (p + 1) (n - p - 1)) (append-nil (f p))))
      ∙ append_assoc (parts_from f 0 p) (f p ++ parts_from f (p + 1) (n - p - 1)) rest
      ∙ ap (λ r. parts_from f 0 p ++ r) (append_assoc (f p) (parts_from f (p + 1) (n - p - 1)) rest) in
      ap (λ r. part_at r (p * c) (length (f p))) split
      ∙ ap (λ m. part_at (parts_from f 0 p ++ (f p ++ (parts_from f (p + 1) (n - p - 1) ++ rest))) m (length (f p))) (sym (add-zero (p * c)))
      ∙ part-after (parts_from f 0 p) (f p ++ (parts_from f (p + 1) (n - p - 1) ++ rest)) 0 (p * c) (length (f p)) front
      ∙ take-append_seam (f p) (parts_from f (p + 1) (n - p - 1) ++ rest)

  pub parts-part : (n : ℕ) (rest : List ℕ) → ((j : ℕ) → j < n → length (f j) ≡ c) → (p : ℕ) → p < n → part_at (parts_from f 0 n ++ rest) (p * c) c ≡ f p
  parts-part n rest h p l =
      ap (part_at (parts_from f 0 n ++ rest) (p * c)) (sym (h p l)) ∙ parts_at n rest p l (λ j k. h j (omega arith))
