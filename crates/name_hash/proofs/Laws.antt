-- Laws of hashlittle2, of the bytes of a path as they are hashed, and of the answer.
use Rattle.std.proofs.Common.{◌≡◌, ℕ, zero, suc, ◌+◌, ◌-◌, ◌*◌, ◌%◌, ◌^◌, ◌<◌, ◌≤◌, min, ltb, List, [], ◌∷◌, length, set, replicate}
use Rattle.std.proofs.Common.{sym, refl, ap, ◌∙◌, zero-add, add-one, arith, ltb-false, ltb-true, eq-eqb, ne_eqb}
use lib.ListN.{length-map, length-replicate, get_or-map, get_or-eq_default}
use lib.Seq.{paste, paste-suc}
use Rattle.parts.specs.Part.{byte_at, overlay}
use Rattle.parts.proofs.Laws.{by-test, overlay-paste, overlay-zeros, overlay-length}
use Rattle.numbers.specs.Number.{little_at, within}
use Rattle.numbers.proofs.Laws.{little_at-agree}
use Rattle.refusal.specs.Check.{silent, refused}
use Rattle.std.specs.Prelude.{Result, Ok, Err}
use Rattle.refusal.specs.Number.{number_of}
use Rattle.refusal.specs.declared.Refusal.{Refusal}
use Rattle.refusal.proofs.Laws.{told-answer, told-refusal}
use Rattle.name_hash.specs.declared.Words.{Words}
use Rattle.name_hash.specs.Hashlittle.{subtract, lines, mix, final, start, added_at, mixed, block_count, ended, hashlittle2}
use Rattle.name_hash.specs.NameHash.{normal_byte, normalized, name_hash, path_check, hash_outcome, outcome}

-- ---- words

-- what wrapping subtraction gives
pub wrapped : (x y r : ℕ) → x < 2 ^ 32 → y < 2 ^ 32 → r < 2 ^ 32 → (r + y) % 2 ^ 32 ≡ x → r ≡ subtract x y
wrapped x y r p q s e = omega arith

module _ (line : ℕ → Words → Words) where
  -- six lines, one after the other, and seven
  pub six-lines : (k1 k2 k3 k4 k5 k6 : ℕ) {w w1 w2 w3 w4 w5 w6 : Words} → w1 ≡ line k1 w → w2 ≡ line k2 w1 → w3 ≡ line k3 w2
      → w4 ≡ line k4 w3 → w5 ≡ line k5 w4 → w6 ≡ line k6 w5 → w6 ≡ lines line (k1 ∷ k2 ∷ k3 ∷ k4 ∷ k5 ∷ k6 ∷ []) w
  unfolding lines
  six-lines k1 k2 k3 k4 k5 k6 e1 e2 e3 e4 e5 e6 =
      e6 ∙ ap (line k6) (e5 ∙ ap (line k5) (e4 ∙ ap (line k4) (e3 ∙ ap (line k3) (e2 ∙ ap (line k2) e1))))

  pub seven-lines : (k1 k2 k3 k4 k5 k6 k7 : ℕ) {w w1 w2 w3 w4 w5 w6 w7 : Words} → w1 ≡ line k1 w → w2 ≡ line k2 w1 → w3 ≡ line k3 w2
      → w4 ≡ line k4 w3 → w5 ≡ line k5 w4 → w6 ≡ line k6 w5 → w7 ≡ line k7 w6
      → w7 ≡ lines line (k1 ∷ k2 ∷ k3 ∷ k4 ∷ k5 ∷ k6 ∷ k7 ∷ []) w
  unfolding lines
  seven-lines k1 k2 k3 k4 k5 k6 k7 e1 e2 e3 e4 e5 e6 e7 = e7 ∙ ap (line k7) (six-lines k1 k2 k3 k4 k5 k6 e1 e2 e3 e4 e5 e6)

-- ---- bytes as they are hashed

-- a byte past the end is 0 on both sides
pub normal-at : (s : List ℕ) (i : ℕ) → byte_at (normalized s) i ≡ normal_byte (byte_at s i)
unfolding normal_byte within
normal-at s i = get_or-map normal_byte s i 0

-- ---- words and blocks

-- a turn of the loop over blocks
pub mixed-next : (count : ℕ) (s : List ℕ) (n : ℕ) {w v u : Words} → w ≡ mixed count s n → v ≡ added_at s (12 * n) w → u ≡ mix v
    → u ≡ mixed count s (n + 1)
unfolding mixed
mixed-next count s n e a m = rw (add-one n) (m ∙ ap mix (a ∙ ap (added_at s (12 * n)) e))

-- lists with the same bytes, zeros past the end among them, come to the same end
module _ (s t : List ℕ) (same : (i : ℕ) → byte_at s i ≡ byte_at t i) where
  word_same : (at : ℕ) → little_at s at 4 ≡ little_at t at 4
  word_same at = little_at-agree s t at at 4 (λ i h. same (at + i))

  added-same : (at : ℕ) (w : Words) → added_at s at w ≡ added_at t at w
  added-same at w = rw (word_same at, word_same (at + 4), word_same (at + 8))

  mixed-same : (count n : ℕ) → mixed count s n ≡ mixed count t n
  unfolding mixed
  mixed-same count zero = refl
  mixed-same count (suc n) = ap mix (added-same (12 * n) (mixed count s n) ∙ ap (added_at t (12 * n)) (mixed-same count n))

  ended_same : (count : ℕ) → ended count s ≡ ended count t
  ended_same count =
      let n = block_count count in
      ap final (added-same (12 * n) (mixed count s n) ∙ ap (added_at t (12 * n)) (mixed-same count n))

-- ---- hashlittle2 of a path as it is hashed

-- one byte more
pub normal-next : (path room : List ℕ) (i : ℕ) {b : ℕ} → i < length path → length path ≤ length room → b ≡ normal_byte (byte_at path i)
    → set (paste room 0 (normalized path) i) i b ≡ paste room 0 (normalized path) (i + 1)
normal-next path room i l m e =
    let at : 0 + i ≡ i = zero-add i in
    let inside : i < length (normalized path) = rw (length-map path normal_byte) l in
    rw (e, ← normal-at path i, add-one i) (ap (λ k. set (paste room 0 (normalized path) i) k (byte_at (normalized path) i)) (sym at)
    ∙ paste-suc room 0 (normalized path) i 0 (omega arith) inside)

pub normal-all : (path room : List ℕ) (i : ℕ) → length path ≤ i → i ≤ length path → length path ≤ length room
    → paste room 0 (normalized path) i ≡ overlay room 0 (normalized path)
normal-all path room i l m h =
    let all : i ≡ min (length (normalized path)) (length room - 0) = rw (length-map path normal_byte) (omega arith) in
    rw all (sym (overlay-paste room 0 (normalized path)))

-- in front of zeros they have the same bytes as by themselves
normal-bytes : (path room : List ℕ) (n : ℕ) → length path ≤ n → room ≡ overlay (replicate n 0) 0 (normalized path)
    → (i : ℕ) → byte_at room i ≡ byte_at (normalized path) i
normal-bytes path room n l e i =
    let size : length room ≡ n = ap length e ∙ overlay-length (replicate n 0) 0 (normalized path) ∙ length-replicate n 0 in
    let same : length (normalized path) ≡ length path = length-map path normal_byte in
    by-test (ltb i n)
    (λ t. ap (λ r. byte_at r i) e ∙ overlay-zeros n (normalized path) i (ltb-true i n t))
    (λ t. get_or-eq_default room 0 (omega (arith, ltb-false i n t)) ∙ sym (get_or-eq_default (normalized path) 0 (omega (arith, ltb-false i n t))))

module _ (path : List ℕ) where
  pub hash-none : {w : Words} → length path ≡ 0 → w ≡ start 0 → w ≡ hashlittle2 (normalized path)
  unfolding hashlittle2
  hash-none l e = rw (length-map path normal_byte, eq-eqb (length path) 0 l) e

  pub hash-some : (room : List ℕ) (n : ℕ) {w : Words} → 0 < length path → length path ≤ n → room ≡ overlay (replicate n 0) 0 (normalized path)
      → w ≡ ended (length path) room → w ≡ hashlittle2 (normalized path)
  unfolding hashlittle2
  hash-some room n some l o e =
      rw (length-map path normal_byte, ne_eqb (length path) 0 (λ z. omega arith))
      (e ∙ ended_same room (normalized path) (normal-bytes path room n l o) (length path))

-- ---- what the answer says

pub passed-hash : (s : List ℕ) (r : Result ℕ Refusal) {h : ℕ} → outcome r ≡ hash_outcome s → r ≡ Ok h → (path_check s ≡ silent) × (h ≡ name_hash s)
passed-hash s r {h} e g =
    let a = told-answer (λ x. x ∷ []) (path_check s) (name_hash s ∷ []) r e g in
    let same = a.1 in
    (a.0, (cc))

pub refused-hash : (s : List ℕ) (r : Result ℕ Refusal) {q : Refusal} → outcome r ≡ hash_outcome s → r ≡ Err q
    → path_check s ≡ refused (number_of q.reason) q.place
refused-hash s r e g = told-refusal (λ x. x ∷ []) (path_check s) (name_hash s ∷ []) r e g
