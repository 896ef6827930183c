-- Laws of the definitions in specs/Message.antt: one more part, and what is told of a message.
use mathlib.Core.Path.{◌≡◌, refl, sym, ap, ap₂, ◌∙◌}
use mathlib.Core.Bool.{Bool, true, false, not, cond}
use mathlib.Core.List.{List, ◌++◌, append_assoc, append-nil}
use Prim.Native.Nat.{ℕ, ◌+◌, ◌-◌, ◌*◌, ◌/◌, ◌%◌, ◌^◌, ◌≤◌, ◌<◌}
use native.Mathlib.Omega.{arith}
use borrow.Author.Tests.{lt-ltb, le-ltb, leb-true, leb-false}
use lib.Dec.{ltb, leb}
use lib.ListN.{length, take, drop, replicate, length-append}
use lib.ListN.{take-append-drop, drop_of_length-le}
use lib.Seq.{drop-append-add, length-take-le}
use Rattle.parts.specs.Part.{overlay}
use Rattle.parts.proofs.Laws.{overlay-inside}
use Rattle.md5_block.specs.declared.Words.{Words}
use Rattle.md5_block.specs.Block.{addends, block, blocks, whole}
use Rattle.md5_block.proofs.BlockLaws.{whole_append, whole-none}
use Rattle.md5_end.specs.End.{zeros, rest, zero_filled}
use Rattle.md5_end.proofs.EndLaws.{over_zeros, rest-length}
use Rattle.md5_digest.specs.declared.Md5.{Md5}
use Rattle.std.specs.Prelude.{Result, Ok, Err, IfOk}
use Rattle.refusal.specs.declared.Refusal.{Refusal}
use Rattle.refusal.specs.Check.{check_of}
use Rattle.refusal.specs.Number.{hash_limit}
use Rattle.refusal.proofs.Laws.{never, quiet}
use Rattle.md5_digest.specs.Message.{waiting, absorbed, is_too_long, limited, md5}

-- the end of a message's waiting bytes is that of the message
pub waiting-zeros : (p : List ℕ) (n : ℕ) → length p ≡ n % 64 → zeros (length p) ≡ zeros n
waiting-zeros p n h = omega arith

pub state-is : {w v : Words} {p q : List ℕ} {m n : ℕ} → w ≡ v → p ≡ q → m ≡ n
    → ◌≡◌ {A = Md5} (record { words = w; pending = p; count = m }) (record { words = v; pending = q; count = n })
state-is a b c = λ i. record { words = a i; pending = b i; count = c i }

-- a part that does not fill the block joins the bytes that wait
pub absorb-short : (s : Md5) (part new : List ℕ) → length s.pending ≡ 64 → length part < 64 - s.count % 64 → new ≡ overlay s.pending (s.count % 64) part
    → ◌≡◌ {A = Md5} (record { words = s.words; pending = new; count = s.count + length part }) (absorbed s part)
unfolding absorbed
absorb-short s part new size h e =
    let inside : s.count % 64 ≤ length s.pending = omega arith in
    let small : length (waiting s ++ part) < 64 = rw (length-append, length-take-le (s.count % 64) s.pending inside) (omega arith) in
    let test : ltb (s.count % 64 + length part) 64 ≡ true = lt-ltb (s.count % 64 + length part) 64 (omega arith) in
    state-is (sym (whole-none addends (waiting s ++ part) s.words small))
    (e ∙ ap (λ b. cond b (overlay s.pending (s.count % 64) part) (zero_filled (rest (waiting s ++ part)))) (sym test)) refl

-- a part that fills the block: the zero_filled block is a, the whole blocks of what is left follow, and the rest waits
module _ (s : Md5) (part : List ℕ) (size : length s.pending ≡ 64) (h : 64 - s.count % 64 ≤ length part) where
  a : List ℕ
  a = take (s.count % 64) s.pending ++ take (64 - s.count % 64) part

  a-length : length a ≡ 64
  unfolding a
  a-length =
      let inside : s.count % 64 ≤ length s.pending = omega arith in
      simp (length-append, length-take-le (s.count % 64) s.pending inside, length-take-le (64 - s.count % 64) part h) (omega arith)

  filled_is : overlay s.pending (s.count % 64) (take (64 - s.count % 64) part) ≡ a
  unfolding a
  filled_is =
      let l : length (take (64 - s.count % 64) part) ≡ 64 - s.count % 64 = length-take-le (64 - s.count % 64) part h in
      let room : s.count % 64 + length (take (64 - s.count % 64) part) ≤ length s.pending = rw l (omega arith) in
      let none : length s.pending ≤ s.count % 64 + length (take (64 - s.count % 64) part) = rw l (omega arith) in
      overlay-inside s.pending (s.count % 64) (take (64 - s.count % 64) part) room
      ∙ ap (λ x. take (s.count % 64) s.pending ++ take (64 - s.count % 64) part ++ x) (drop_of_length-le s.pending none) ∙ append-nil _

  all-is : a ++ drop (64 - s.count % 64) part ≡ waiting s ++ part
  unfolding a
  all-is =
      append_assoc (waiting s) (take (64 - s.count % 64) part) (drop (64 - s.count % 64) part)
      ∙ ap (λ l. waiting s ++ l) (take-append-drop (64 - s.count % 64) part)

  rest-is : (b : List ℕ) → rest (a ++ b) ≡ rest b
  rest-is b =
      let e : length (a ++ b) / 64 * 64 ≡ length a + length b / 64 * 64 = rw length-append (omega (arith, a-length)) in
      ap (λ i. drop i (a ++ b)) e ∙ drop-append-add a b (length b / 64 * 64)

  pub absorb-long : (k block left new : List ℕ) (v u : Words) → k ≡ addends → block ≡ overlay s.pending (s.count % 64) (take (64 - s.count % 64) part)
      → left ≡ drop (64 - s.count % 64) part → v ≡ whole k block s.words → u ≡ whole k left v → new ≡ overlay (replicate 64 0) 0 (rest left)
      → ◌≡◌ {A = Md5} (record { words = u; pending = new; count = s.count + length part }) (absorbed s part)
  unfolding absorbed
  absorb-long k block left new v u q e f x y z =
      let is-a : block ≡ a = e ∙ filled_is in
      let all : a ++ left ≡ waiting s ++ part = ap (λ l. a ++ l) f ∙ all-is in
      let one : v ≡ blocks addends 1 a s.words = x ∙ ap₂ (λ t l. whole t l s.words) q is-a ∙ ap (λ i. blocks addends (i / 64) a s.words) a-length in
      let words : u ≡ whole addends (waiting s ++ part) s.words =
      y ∙ ap₂ (λ t w. whole t left w) q one ∙ sym (whole_append addends 1 a left s.words a-length) ∙ ap (λ l. whole addends l s.words) all in
      let short : length (rest left) ≤ 64 = rw rest-length (omega arith) in
      let test : ltb (s.count % 64 + length part) 64 ≡ false = le-ltb (s.count % 64 + length part) 64 (omega arith) in
      let pending : new ≡ zero_filled (rest (waiting s ++ part)) = z ∙ over_zeros (rest left) short ∙ ap zero_filled (sym (rest-is left) ∙ ap rest all) in
      state-is words (pending ∙ ap (λ b. cond b (overlay s.pending (s.count % 64) part) (zero_filled (rest (waiting s ++ part)))) (sym test)) refl

-- the limit, by a difference that cannot wrap
over : (count n : ℕ) → 2 ^ 48 < count + n → is_too_long (count + n) ≡ true
over count n h = lt-ltb (2 ^ 48) (count + n) h

pub over-before : (count n : ℕ) → 2 ^ 48 < count → is_too_long (count + n) ≡ true
over-before count n h = over count n (omega arith)

pub limit-left : (count n : ℕ) → count ≤ 2 ^ 48 → is_too_long (count + n) ≡ not (leb n (2 ^ 48 - count))
limit-left count n h = go (leb n (2 ^ 48 - count)) refl
  where
    go : (b : Bool) → leb n (2 ^ 48 - count) ≡ b → is_too_long (count + n) ≡ not b
    go true e = le-ltb (2 ^ 48) (count + n) (omega (arith, leb-true n (2 ^ 48 - count) e))
    go false e = over count n (omega (arith, leb-false n (2 ^ 48 - count) e))

-- a message within the limit has its digest
pub short-hashed : (m : List ℕ) (r : Result (List ℕ) Refusal) → length m ≤ 2 ^ 48 → check_of r ≡ limited (length m)
    → IfOk r (λ bytes. bytes ≡ md5 m) → r ≡ Ok (md5 m)
short-hashed m (Ok bytes) l e d = ap Ok d
short-hashed m (Err r) l e d = absurd (never (e ∙ quiet hash_limit 0 refl (le-ltb (2 ^ 48) (length m) l)))
