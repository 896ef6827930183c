-- Laws of the definitions in specs/End.antt.
use mathlib.Core.Path.{◌≡◌, refl, sym, ap, ap₂, ◌∙◌}
use mathlib.Core.List.{List, [], ◌∷◌, ◌++◌, append_assoc, append-nil}
use Prim.Native.Nat.{ℕ, zero, suc, ◌+◌, ◌-◌, ◌*◌, ◌/◌, ◌%◌, ◌^◌, ◌≤◌, ◌<◌}
use native.Mathlib.Nat.{zero-add, suc-add, mul_assoc, pow-suc}
use native.Mathlib.Omega.{arith}
use Rattle.std.specs.Int.{w64, to_le_bytes}
use lib.ListN.{length, take, drop, set, replicate, length-append, length-drop, length-replicate}
use lib.ListN.{take-append-drop, drop_of_length-le, replicate-append-replicate}
use lib.Seq.{drop-append-add, drop_at, take_at, set-append_seam, length-take-le}
use Rattle.parts.specs.Part.{overlay}
use Rattle.parts.proofs.Laws.{overlay-inside, overlay-after, part_to_end}
use Rattle.md5_block.specs.declared.Words.{Words}
use Rattle.md5_block.specs.Block.{words_of, block, blocks, whole}
use Rattle.md5_block.proofs.BlockLaws.{whole_append, whole-none, whole-one}
use Rattle.md5_end.specs.End.{little_bytes, padded, zeros, rest, zero_filled}

-- the bytes that std tells of a number of 64 bits
pub eight-bytes : (x : ℕ) → to_le_bytes w64 x ≡ little_bytes 8 x
unfolding little_bytes
eight-bytes x =
    let b : x / 256 / 256 ≡ x / 65536 = omega arith in
    let c : x / 65536 / 256 ≡ x / 16777216 = omega arith in
    let d : x / 16777216 / 256 ≡ x / 4294967296 = omega arith in
    let e : x / 4294967296 / 256 ≡ x / 1099511627776 = omega arith in
    let f : x / 1099511627776 / 256 ≡ x / 281474976710656 = omega arith in
    let g : x / 281474976710656 / 256 ≡ x / 72057594037927936 = omega arith in
    rw (b, c, d, e, f, g)

-- a multiple of 256 to the m changes none of m bytes, and stands after them
module _ (m x y : ℕ) where
  low_byte : (x + y * 256 ^ suc m) % 256 ≡ x % 256
  low_byte = omega (arith, ap (λ p. y * p) (pow-suc 256 m) ∙ sym (mul_assoc y (256 ^ m) 256))

  high-bytes : (x + y * 256 ^ suc m) / 256 ≡ x / 256 + y * 256 ^ m
  high-bytes = omega (arith, ap (λ p. y * p) (pow-suc 256 m) ∙ sym (mul_assoc y (256 ^ m) 256))

little-more : (m x y : ℕ) → little_bytes m (x + y * 256 ^ m) ≡ little_bytes m x
unfolding little_bytes
little-more zero x y = refl
little-more (suc m) x y = ap₂ (λ a l. a ∷ l) (low_byte m x y) (ap (little_bytes m) (high-bytes m x y) ∙ little-more m (x / 256) y)

little-append : (m k x y : ℕ) → x < 256 ^ m → little_bytes (m + k) (x + y * 256 ^ m) ≡ little_bytes m x ++ little_bytes k y
unfolding little_bytes
little-append zero k x y h =
    let e : x + y * 1 ≡ y = omega arith in
    ap₂ little_bytes (zero-add k) e
little-append (suc m) k x y h =
    let fits : x / 256 < 256 ^ m = omega (arith, pow-suc 256 m) in
    ap (λ i. little_bytes i (x + y * 256 ^ suc m)) (suc-add m k)
    ∙ ap₂ (λ a l. a ∷ l) (low_byte m x y) (ap (little_bytes (m + k)) (high-bytes m x y) ∙ little-append m k (x / 256) y fits)

-- the number of bits, modulo 2^64
pub bits-modulo : (n : ℕ) → little_bytes 8 (n * 8 % 2 ^ 64) ≡ little_bytes 8 (n * 8)
bits-modulo n =
    let e : n * 8 % 2 ^ 64 + n * 8 / 2 ^ 64 * 256 ^ 8 ≡ n * 8 = omega arith in
    sym (little-more 8 (n * 8 % 2 ^ 64) (n * 8 / 2 ^ 64)) ∙ ap (little_bytes 8) e

-- two words as one number
pub two-words : (a b : ℕ) → a < 4294967296 → little_bytes 8 (a + b * 4294967296) ≡ little_bytes 4 a ++ little_bytes 4 b
two-words a b h = little-append 4 4 a b h

pub little-length : (n x : ℕ) → length (little_bytes n x) ≡ n
unfolding little_bytes
little-length zero x = refl
little-length (suc n) x = ap suc (little-length n (x / 256))

-- bytes laid at the start of zeros
over-replicate : (n : ℕ) (p : List ℕ) → length p ≤ n → overlay (replicate n 0) 0 p ≡ p ++ replicate (n - length p) 0
over-replicate n p h =
    let k : ℕ = n - length p in
    let all : n ≡ length p + k = omega arith in
    let room : 0 + length p ≤ length (replicate {A = ℕ} n 0) = rw length-replicate (omega arith) in
    overlay-inside (replicate n 0) 0 p room
    ∙ ap (λ l. p ++ l)
    (ap₂ (λ i m. drop i (replicate m 0)) (zero-add (length p)) all ∙ ap (drop (length p)) (sym (replicate-append-replicate (length p) k 0))
    ∙ drop_at (replicate (length p) 0) (replicate k 0) (length p) (length-replicate (length p) 0))

pub over_zeros : (p : List ℕ) → length p ≤ 64 → overlay (replicate 64 0) 0 p ≡ zero_filled p
over_zeros p h = over-replicate 64 p h

-- two parts of eight bytes
pub digest-laid : (l h d e : List ℕ) → length l ≡ 8 → length h ≡ 8 → d ≡ overlay (replicate 16 0) 0 l → e ≡ overlay d 8 h → e ≡ l ++ h
digest-laid l h d e p q f g =
    let sixteen : length (l ++ h) ≡ 16 = rw length-append (omega arith) in
    let fits : length (l ++ h) ≤ 16 = omega arith in
    let at : 8 ≡ 0 + length l = omega arith in
    g ∙ ap₂ (λ x i. overlay x i h) f at ∙ overlay-after (replicate 16 0) 0 l h ∙ over-replicate 16 (l ++ h) fits
    ∙ ap (λ k. l ++ h ++ replicate (16 - k) 0) sixteen ∙ append-nil (l ++ h)

-- the last eight bytes of a block
pub length-put : (t l new : List ℕ) → length t ≡ 64 → length l ≡ 8 → new ≡ overlay t 56 l → new ≡ take 56 t ++ l
length-put t l new h k e =
    let room : 56 + length l ≤ length t = omega arith in
    let all : length t ≤ 56 + length l = omega arith in
    e ∙ overlay-inside t 56 l room ∙ ap (λ x. take 56 t ++ l ++ x) (drop_of_length-le t all) ∙ append-nil (take 56 t ++ l)

-- the rest of a message, the set bit, and zeros
pub marked : (p t u : List ℕ) (n : ℕ) → length p ≡ n → n < 64 → t ≡ overlay (replicate 64 0) 0 p → u ≡ set t n 128 → u ≡ p ++ (128 ∷ replicate (63 - n) 0)
marked p t u n h k e f =
    let size : length p ≤ 64 = omega arith in
    let one : 64 - length p ≡ suc (63 - n) = omega arith in
    f ∙ ap₂ (λ x i. set x i 128) (e ∙ over_zeros p size ∙ ap (λ z. p ++ replicate z 0) one) (sym h) ∙ set-append_seam p 0 (replicate (63 - n) 0) 128

-- the set bit and zeros, in two parts
bit-zeros : (p : List ℕ) (a m : ℕ) → p ++ (128 ∷ replicate (a + m) 0) ≡ p ++ (128 ∷ replicate a 0) ++ replicate m 0
bit-zeros p a m = ap (λ z. p ++ (128 ∷ z)) (sym (replicate-append-replicate a m 0)) ∙ sym (append_assoc p (128 ∷ replicate a 0) (replicate m 0))

cut : (a e l : List ℕ) (n : ℕ) → length a ≡ n → take n (a ++ e) ++ l ≡ a ++ l
cut a e l n h = ap (λ x. x ++ l) (take_at a e n h)

-- the block of the set bit, with the length in it and without
module _ (p l : List ℕ) (n : ℕ) (h : length p ≡ n) where
  pub with-length : n < 56 → take 56 (p ++ (128 ∷ replicate (63 - n) 0)) ++ l ≡ p ++ (128 ∷ replicate (55 - n) 0 ++ l)
  with-length k =
      let more : 63 - n ≡ 55 - n + 8 = omega arith in
      let size : length (p ++ (128 ∷ replicate (55 - n) 0)) ≡ 56 = simp (length-append, length-replicate) (omega arith) in
      ap (λ m. take 56 (p ++ (128 ∷ replicate m 0)) ++ l) more ∙ ap (λ x. take 56 x ++ l) (bit-zeros p (55 - n) 8)
      ∙ cut (p ++ (128 ∷ replicate (55 - n) 0)) (replicate 8 0) l 56 size ∙ append_assoc p (128 ∷ replicate (55 - n) 0) l

  pub without-length : (m : ℕ) → p ++ (128 ∷ replicate (63 - n) 0) ++ (replicate m 0 ++ l) ≡ p ++ (128 ∷ replicate (63 - n + m) 0 ++ l)
  without-length m =
      sym (append_assoc (p ++ (128 ∷ replicate (63 - n) 0)) (replicate m 0) l) ∙ ap (λ x. x ++ l) (sym (bit-zeros p (63 - n) m))
      ∙ append_assoc p (128 ∷ replicate (63 - n + m) 0) l

-- what is left after whole blocks
pub rest-length : (s : List ℕ) → length (rest s) ≡ length s % 64
rest-length s = length-drop (length s / 64 * 64) s ∙ omega arith

module _ (s q : List ℕ) where
  front : List ℕ
  front = take (length s / 64 * 64) s

  front_length : length front ≡ 64 * (length s / 64)
  unfolding front
  front_length =
      let fits : length s / 64 * 64 ≤ length s = omega arith in
      length-take-le (length s / 64 * 64) s fits ∙ omega arith

  all : front ++ (rest s ++ q) ≡ s ++ q
  unfolding front
  all = sym (append_assoc (take (length s / 64 * 64) s) (rest s) q) ∙ ap (λ l. l ++ q) (take-append-drop (length s / 64 * 64) s)

-- the whole blocks of s, and then those of its rest and what follows it
pub whole-rest : (t s q : List ℕ) (w : Words) → whole t (s ++ q) w ≡ whole t (rest s ++ q) (whole t s w)
unfolding front
whole-rest t s q w =
    let n : ℕ = length s / 64 in
    let small : length (rest s ++ []) < 64 = rw (append-nil, rest-length) (omega arith) in
    let first : whole t s w ≡ blocks t n (front s q) w =
    ap (λ l. whole t l w) (sym (append-nil s) ∙ sym (all s []))
    ∙ whole_append t n (front s []) (rest s ++ []) w (front_length s []) ∙ whole-none t (rest s ++ []) _ small in
    ap (λ l. whole t l w) (sym (all s q)) ∙ whole_append t n (front s q) (rest s ++ q) w (front_length s q) ∙ ap (whole t (rest s ++ q)) (sym first)

pub rest-append : (s q : List ℕ) → rest (s ++ q) ≡ rest (rest s ++ q)
rest-append s q =
    let a : List ℕ = front s q in
    let b : List ℕ = rest s ++ q in
    let e : length (a ++ b) / 64 * 64 ≡ length a + length b / 64 * 64 = rw length-append (omega (arith, front_length s q)) in
    ap rest (sym (all s q)) ∙ ap (λ i. drop i (a ++ b)) e ∙ drop-append-add a b (length b / 64 * 64)

-- the end of a message: what stands after its whole blocks fills one block
pub end-one : (k s t u x : List ℕ) (c n : ℕ) (w e r : Words) → n ≡ length s % 64 → n < 56 → t ≡ rest s ++ (128 ∷ replicate (63 - n) 0)
    → u ≡ take 56 t ++ little_bytes 8 (c * 8) → x ≡ words_of 16 u → e ≡ whole k s w → r ≡ block k x e
    → r ≡ whole k (s ++ padded (zeros (length s)) c) w
end-one k s t u x c n w e r m h p q f g b =
    let l : List ℕ = little_bytes 8 (c * 8) in
    let z : 55 - n ≡ zeros (length s) = omega arith in
    let len : length (rest s) ≡ n = rest-length s ∙ sym m in
    let is : u ≡ rest s ++ padded (zeros (length s)) c =
    q ∙ ap (λ y. take 56 y ++ l) p ∙ with-length (rest s) l n len h ∙ ap (λ j. rest s ++ padded j c) z in
    let size : length (rest s ++ padded (zeros (length s)) c) ≡ 64 = simp (length-append, length-replicate, little-length) (omega arith) in
    b ∙ ap₂ (block k) (f ∙ ap (words_of 16) is) g ∙ sym (whole-one k (rest s ++ padded (zeros (length s)) c) (whole k s w) size)
    ∙ sym (whole-rest k s (padded (zeros (length s)) c) w)

-- or two
pub end-two : (k s t : List ℕ) (c n : ℕ) (w e r : Words) → n ≡ length s % 64 → 56 ≤ n → t ≡ rest s ++ (128 ∷ replicate (63 - n) 0) → e ≡ whole k s w
    → r ≡ block k (words_of 16 (replicate 56 0 ++ little_bytes 8 (c * 8))) (block k (words_of 16 t) e)
    → r ≡ whole k (s ++ padded (zeros (length s)) c) w
end-two k s t c n w e r m h p g b =
    let l : List ℕ = little_bytes 8 (c * 8) in
    let v : Words = whole k s w in
    let u : List ℕ = replicate 56 0 ++ l in
    let z : 63 - n + 56 ≡ zeros (length s) = omega arith in
    let len : length (rest s) ≡ n = rest-length s ∙ sym m in
    let size : length t ≡ 64 = ap length p ∙ simp (length-append, length-replicate) (omega arith) in
    let one : block k (words_of 16 t) e ≡ blocks k 1 t v = ap (block k (words_of 16 t)) g ∙ sym (whole-one k t v size) ∙ ap (λ j. blocks k (j / 64) t v) size in
    let is : t ++ u ≡ rest s ++ padded (zeros (length s)) c = ap (λ j. j ++ u) p ∙ without-length (rest s) l n len 56 ∙ ap (λ j. rest s ++ padded j c) z in
    let last : length u ≡ 64 = simp little-length in
    b ∙ ap (block k (words_of 16 u)) one ∙ sym (whole-one k u _ last) ∙ sym (whole_append k 1 t u v size) ∙ ap (λ j. whole k j v) is
    ∙ sym (whole-rest k s (padded (zeros (length s)) c) w)

-- the slice that `end` takes for the rest
pub last-part : (s : List ℕ) → take (length s - (length s - length s % 64)) (drop (length s - length s % 64) s) ≡ rest s
last-part s =
    let e : length s - length s % 64 ≡ length s / 64 * 64 = omega arith in
    part_to_end (length s - length s % 64) s ∙ ap (λ i. drop i s) e
