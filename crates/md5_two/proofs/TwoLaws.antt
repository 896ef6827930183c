-- Laws of two messages at once: each by itself.
use mathlib.Core.Path.{◌≡◌, sym, ap, ap₂, ◌∙◌}
use mathlib.Core.Bool.{false}
use mathlib.Core.List.{List, [], ◌++◌}
use Prim.Native.Nat.{ℕ, ◌+◌, ◌-◌, ◌*◌, ◌/◌, ◌%◌, ◌≤◌}
use native.Mathlib.Nat.{zero-add}
use native.Mathlib.Omega.{arith}
use lib.ListN.{length, length-append, length-replicate, drop_of_length-le}
use Rattle.refusal.specs.Check.{silent, refused_if}
use Rattle.md5_block.specs.declared.Words.{Words}
use Rattle.md5_block.specs.Block.{addends, words_of, sum, block, whole}
use Rattle.md5_block.proofs.BlockLaws.{all-steps, block-is, whole-one}
use Rattle.md5_end.specs.End.{padded, zeros, rest}
use Rattle.md5_end.proofs.EndLaws.{little-length, rest-length, whole-rest}
use Rattle.md5_digest.proofs.MessageLaws.{waiting-zeros}
use Rattle.md5_digest.specs.Message.{initial, padding, digest_of, md5, is_too_long, limited}
use Rattle.md5_two.specs.declared.Two.{Two}
use Rattle.md5_two.specs.Two.{both, steps_two, block_two}

pub paired : {v w : Words} {u : Two} → u.first ≡ v → u.second ≡ w → u ≡ both v w
paired p q = λ i. record { first = p i; second = q i }

-- sixteen groups of four steps of two messages, and the sums
pub block-two-is : (t x y : List ℕ) (v : Two) {w1 w2 w3 w4 w5 w6 w7 w8 w9 w10 w11 w12 w13 w14 w15 w16 : Two} {a b : Words}
    → w1 ≡ steps_two t x y 0 4 v
    → w2 ≡ steps_two t x y 4 4 w1
    → w3 ≡ steps_two t x y 8 4 w2
    → w4 ≡ steps_two t x y 12 4 w3
    → w5 ≡ steps_two t x y 16 4 w4
    → w6 ≡ steps_two t x y 20 4 w5
    → w7 ≡ steps_two t x y 24 4 w6
    → w8 ≡ steps_two t x y 28 4 w7
    → w9 ≡ steps_two t x y 32 4 w8
    → w10 ≡ steps_two t x y 36 4 w9
    → w11 ≡ steps_two t x y 40 4 w10
    → w12 ≡ steps_two t x y 44 4 w11
    → w13 ≡ steps_two t x y 48 4 w12
    → w14 ≡ steps_two t x y 52 4 w13
    → w15 ≡ steps_two t x y 56 4 w14
    → w16 ≡ steps_two t x y 60 4 w15
    → a ≡ sum v.first w16.first
    → b ≡ sum v.second w16.second
    → both a b ≡ block_two t x y v
unfolding steps_two block_two
block-two-is t x y v e1 e2 e3 e4 e5 e6 e7 e8 e9 e10 e11 e12 e13 e14 e15 e16 p q =
    paired
    (block-is t x v.first (all-steps t x v.first
    (first e1) (first e2) (first e3) (first e4) (first e5) (first e6) (first e7) (first e8)
    (first e9) (first e10) (first e11) (first e12) (first e13) (first e14) (first e15) (first e16)) p)
    (block-is t y v.second (all-steps t y v.second
    (second e1) (second e2) (second e3) (second e4) (second e5) (second e6) (second e7) (second e8)
    (second e9) (second e10) (second e11) (second e12) (second e13) (second e14) (second e15) (second e16)) q)
  where
    first : {a b : Two} → a ≡ b → a.first ≡ b.first
    first e = ap (λ w. w.first) e

    second : {a b : Two} → a ≡ b → a.second ≡ b.second
    second e = ap (λ w. w.second) e

-- the padding of whole blocks is one block
pub end_whole : (k s x : List ℕ) (n : ℕ) (w e r : Words) → n ≡ length s → n % 64 ≡ 0 → e ≡ whole k s w → x ≡ words_of 16 (padded 55 n) → r ≡ block k x e
    → r ≡ whole k (s ++ padding (length s)) w
unfolding padding
end_whole k s x n w e r l h p q b =
    let none : length s ≤ length s / 64 * 64 = omega arith in
    let nothing : rest s ≡ [] = drop_of_length-le s none in
    let fifty-five : (119 - length s % 64) % 64 ≡ 55 = omega arith in
    let same : padded 55 n ≡ padded ((119 - length s % 64) % 64) (length s) = ap₂ padded (sym fifty-five) l in
    let size : length (padded ((119 - length s % 64) % 64) (length s)) ≡ 64 = simp (length-append, length-replicate, little-length) (omega arith) in
    b ∙ ap₂ (block k) (q ∙ ap (words_of 16) same) p ∙ sym (whole-one k (padded ((119 - length s % 64) % 64) (length s)) (whole k s w) size)
    ∙ ap (λ l. whole k (l ++ padded ((119 - length s % 64) % 64) (length s)) (whole k s w)) (sym nothing)
    ∙ sym (whole-rest k s (padded ((119 - length s % 64) % 64) (length s)) w)

-- the end of a message after its whole blocks
pub end-itself : (s left : List ℕ) (n : ℕ) (w e r : Words) → n ≡ length s → left ≡ rest s → e ≡ whole addends s w
    → r ≡ whole addends (left ++ padded (zeros (length left)) n) e → r ≡ whole addends (s ++ padding (length s)) w
unfolding padding
end-itself s left n w e r l p q h =
    let size : length left ≡ length s % 64 = ap length p ∙ rest-length s in
    let same : padded (zeros (length left)) n ≡ padded (zeros (length s)) (length s) = ap₂ padded (waiting-zeros left (length s) size) l in
    h ∙ ap₂ (λ a b. whole addends (left ++ a) b) same q ∙ ap (λ a. whole addends (a ++ padded (zeros (length s)) (length s)) (whole addends s w)) p
    ∙ sym (whole-rest addends s (padded (zeros (length s)) (length s)) w)

-- a message within the limit: no refusal, and its digest or a part of it
pub within : (f : List ℕ → List ℕ) (m bytes : List ℕ) (n : ℕ) (w : Words) → n ≡ length m → is_too_long (0 + n) ≡ false
    → w ≡ whole addends (m ++ padding (length m)) initial → bytes ≡ f (digest_of w) → (silent ≡ limited (length m)) × (bytes ≡ f (md5 m))
unfolding refused_if md5
within f m bytes n w l g p q =
    let e : is_too_long (length m) ≡ false = ap is_too_long (sym l ∙ sym (zero-add n)) ∙ g in
    (rw e, q ∙ ap (λ v. f (digest_of v)) p)
