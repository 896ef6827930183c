-- Laws of the bytes and the parts at an offset, over all lists.
use mathlib.Core.Path.{◌≡◌, refl, sym, ap, ap₂, ◌∙◌, subst}
use mathlib.Core.Bool.{Bool, true, false, ◌&&◌, false≢true}
use mathlib.Core.List.{List, [], ◌∷◌, ◌++◌}
use Prim.Native.Nat.{ℕ, zero, suc, ◌+◌, ◌-◌, ◌≤◌, ◌<◌, min}
use native.Mathlib.Nat.{suc-add, zero-add, not-suc-le-zero, le_of_suc-le-suc, zero-sub, sub-zero, suc-sub-suc, zero-min, min-zero, suc-min-suc, le_of_eq}
use native.Mathlib.Omega.{arith}
use lib.Dec.{eqb}
use lib.ListN.{length, take, drop, replicate, length-append, length-take, length-drop, length-replicate, get_or-replicate}
use lib.Seq.{take-append_seam, drop-append-add, drop-drop, take-nil, drop-nil, take-length, take_all, take-take, get_or-take, get_or-drop, ext_get_or, paste}
use lib.Pointwise.{pointwise}
use Rattle.std.specs.Prelude.{IsTrue, EachIndex, ◌↔◌}
use borrow.Author.Tests.{eq-eqb, eqb-true}
use Rattle.std.specs.Cmp.Lexicographic.{same_text, other_text}
use Rattle.parts.specs.Part.{byte_at, part_at, same_bytes, all_zero, overlay}

-- ---- parts

pub part_at-length : (s : List ℕ) (at count : ℕ) → length (part_at s at count) ≡ min count (length s - at)
part_at-length s at count = simp (length-take, length-drop)

pub part_at-inside : (s : List ℕ) (at count : ℕ) → at + count ≤ length s → length (part_at s at count) ≡ count
part_at-inside s at count h = part_at-length s at count ∙ omega arith

-- the rest of a list, as a part that starts in it is lent
pub part_to_end : (at : ℕ) (s : List ℕ) → take (length s - at) (drop at s) ≡ drop at s
part_to_end at s = take_all (length s - at) (drop at s) (le_of_eq (length-drop at s))

pub part_at-byte : (s : List ℕ) (at count i : ℕ) → i < count → byte_at (part_at s at count) i ≡ byte_at s (at + i)
part_at-byte s at count i h = get_or-take count (drop at s) i 0 h ∙ get_or-drop at s i 0

-- A part of a part is a part of the whole.
take-drop-take : (at count n : ℕ) (l : List ℕ) → at + count ≤ n → take count (drop at (take n l)) ≡ take count (drop at l)
take-drop-take zero count n l h = take-take count n l (omega arith)
take-drop-take (suc at) count zero l h = absurd (omega arith)
take-drop-take (suc at) count (suc n) [] h = refl
take-drop-take (suc at) count (suc n) (x ∷ l) h = take-drop-take at count n l (omega arith)

pub part-of-part : (s : List ℕ) (a n at count : ℕ) → at + count ≤ n → part_at (part_at s a n) at count ≡ part_at s (a + at) count
part-of-part s a n at count h = take-drop-take at count n (drop a s) h ∙ ap (take count) (drop-drop at a s)

-- What is taken or dropped past the end is not there.
take-clipped : (n : ℕ) (l : List ℕ) → take (min n (length l)) l ≡ take n l
take-clipped zero l = rw zero-min
take-clipped (suc n) [] = rw min-zero
take-clipped (suc n) (x ∷ l) = rw suc-min-suc (ap (λ (r : List ℕ). x ∷ r) (take-clipped n l))

drop-clipped : (n : ℕ) (l : List ℕ) → drop (min n (length l)) l ≡ drop n l
drop-clipped zero l = rw zero-min
drop-clipped (suc n) [] = rw min-zero
drop-clipped (suc n) (x ∷ l) = rw suc-min-suc (drop-clipped n l)

-- A start and a count that are clipped to what is there give the same part.
pub part_at-clipped : (s : List ℕ) (at count start n : ℕ) → start ≡ min at (length s) → n ≡ min count (length s - start) → part_at s start n ≡ part_at s at count
part_at-clipped s at count start n p q =
    let dropped : drop start s ≡ drop at s = rw p (drop-clipped at s) in
    rw (q, ← length-drop start s, dropped) (take-clipped count (drop at s))

-- ---- tests

pub by-test : {P : Type 0} (b : Bool) → (b ≡ true → P) → (b ≡ false → P) → P
by-test true f g = f refl
by-test false f g = g refl

-- ---- the same bytes

pub same_bytes-refl : (a : List ℕ) → same_bytes a a ≡ true
unfolding same_bytes
same_bytes-refl [] = refl
same_bytes-refl (x ∷ a) = rw (eq-eqb x x refl) (same_bytes-refl a)

pub same_bytes-of-eq : (a b : List ℕ) → a ≡ b → same_bytes a b ≡ true
same_bytes-of-eq a b e = subst (λ (l : List ℕ). same_bytes a l ≡ true) e (same_bytes-refl a)

pub both : (p q : Bool) → (p && q) ≡ true → (p ≡ true) × (q ≡ true)
both true q e = (refl, e)
both false q e = absurd (false≢true e)

pub same_bytes-eq : (a b : List ℕ) → same_bytes a b ≡ true → a ≡ b
unfolding same_bytes
same_bytes-eq [] [] e = refl
same_bytes-eq [] (y ∷ b) e = absurd (false≢true e)
same_bytes-eq (x ∷ a) [] e = absurd (false≢true e)
same_bytes-eq (x ∷ a) (y ∷ b) e =
    let h = both (eqb x y) (same_bytes a b) e in
    ap₂ ◌∷◌ (eqb-true x y h.0) (same_bytes-eq a b h.1)

unless : (t : Bool) → (t ≡ true → ⊥) → t ≡ false
unless true h = absurd (h refl)
unless false h = refl

pub same_bytes-not : (a b : List ℕ) → (a ≡ b → ⊥) → same_bytes a b ≡ false
same_bytes-not a b h = unless (same_bytes a b) (λ e. h (same_bytes-eq a b e))

-- the comparison of std
pub compared-same : (a b : List ℕ) → pointwise eqb a b ≡ same_bytes a b
compared-same a b = go (pointwise eqb a b) refl
  where
    go : (t : Bool) → pointwise eqb a b ≡ t → t ≡ same_bytes a b
    go true e = sym (same_bytes-of-eq a b (same_text a b (sym e)))
    go false e = sym (same_bytes-not a b (other_text a b (sym e)))

-- ---- zeros

pub all_zero-byte : (s : List ℕ) → all_zero s ≡ true → (i : ℕ) → byte_at s i ≡ 0
unfolding all_zero
all_zero-byte [] e i = refl
all_zero-byte (x ∷ s) e zero = eqb-true x 0 (both (eqb x 0) (all_zero s) e).0
all_zero-byte (x ∷ s) e (suc i) = all_zero-byte s (both (eqb x 0) (all_zero s) e).1 i

zeros : (s : List ℕ) → ((i : ℕ) → i < length s → byte_at s i ≡ 0) → s ≡ replicate (length s) 0
zeros s h =
    ext_get_or 0 s (replicate (length s) 0) (sym (length-replicate (length s) 0))
    (λ i l. h i l ∙ sym (get_or-replicate (length s) i 0 0 l))

pub all_zero-eq : (s : List ℕ) → all_zero s ≡ true → s ≡ replicate (length s) 0
all_zero-eq s e = zeros s (λ i l. all_zero-byte s e i)

pub all_zero-replicate : (n : ℕ) → all_zero (replicate n 0) ≡ true
unfolding all_zero
all_zero-replicate zero = refl
all_zero-replicate (suc n) = all_zero-replicate n

pub all_zero-of-eq : (s : List ℕ) → s ≡ replicate (length s) 0 → all_zero s ≡ true
all_zero-of-eq s e = subst (λ (l : List ℕ). all_zero l ≡ true) (sym e) (all_zero-replicate (length s))

pub all_zero-of-bytes : (s : List ℕ) → ((i : ℕ) → i < length s → byte_at s i ≡ 0) → all_zero s ≡ true
all_zero-of-bytes s h = all_zero-of-eq s (zeros s h)

-- a test of each byte
pub all_zero-told : (s : List ℕ) (b : Bool) → (IsTrue b ↔ EachIndex s (λ k. byte_at s k ≡ 0)) → b ≡ all_zero s
all_zero-told s true h = sym (all_zero-of-bytes s (h.0 refl))
all_zero-told s false h = sym (unless (all_zero s) (λ e. false≢true (h.1 (λ i l. all_zero-byte s e i))))

-- ---- bytes laid over others

pub overlay-length : (to : List ℕ) (at : ℕ) (from : List ℕ) → length (overlay to at from) ≡ length to
unfolding overlay
overlay-length [] at from = refl
overlay-length (x ∷ to) (suc at) from = ap suc (overlay-length to at from)
overlay-length (x ∷ to) zero [] = refl
overlay-length (x ∷ to) zero (y ∷ from) = ap suc (overlay-length to zero from)

-- An overlay pastes what has room.
pub overlay-paste : (to : List ℕ) (at : ℕ) (from : List ℕ) → overlay to at from ≡ paste to at from (min (length from) (length to - at))
unfolding overlay
overlay-paste [] at from = simp (zero-sub, min-zero, take-nil, drop-nil)
overlay-paste (x ∷ to) (suc at) from = simp (suc-sub-suc, suc-add) (ap (λ (r : List ℕ). x ∷ r) (overlay-paste to at from))
overlay-paste (x ∷ to) zero [] = simp zero-min
overlay-paste (x ∷ to) zero (y ∷ from) =
    simp (sub-zero, zero-add, suc-min-suc)
    (ap (λ (r : List ℕ). y ∷ r) (simp (sub-zero, zero-add) at (overlay-paste to zero from)))

-- past the end of the list nothing is laid, as at its end
pub overlay-clipped : (to : List ℕ) (at : ℕ) (from : List ℕ) → overlay to (min at (length to)) from ≡ overlay to at from
unfolding overlay
overlay-clipped [] at from = refl
overlay-clipped (x ∷ to) zero from = rw zero-min
overlay-clipped (x ∷ to) (suc at) from = rw suc-min-suc (ap (λ (r : List ℕ). x ∷ r) (overlay-clipped to at from))

pub overlay-inside : (to : List ℕ) (at : ℕ) (from : List ℕ) → at + length from ≤ length to
    → overlay to at from ≡ take at to ++ from ++ drop (at + length from) to
overlay-inside to at from h =
    let all : min (length from) (length to - at) ≡ length from = omega arith in
    rw (overlay-paste to at from, all, take-length from)

-- Bytes laid over others one part after the other.
pub overlay-none : (to : List ℕ) (at : ℕ) → overlay to at [] ≡ to
unfolding overlay
overlay-none [] at = refl
overlay-none (x ∷ to) zero = refl
overlay-none (x ∷ to) (suc at) = ap (λ (r : List ℕ). x ∷ r) (overlay-none to at)

pub overlay-after : (to : List ℕ) (at : ℕ) (a b : List ℕ) → overlay (overlay to at a) (at + length a) b ≡ overlay to at (a ++ b)
unfolding overlay
overlay-after [] at a b = refl
overlay-after (x ∷ to) (suc at) a b = rw (suc-add at (length a)) (ap (λ (r : List ℕ). x ∷ r) (overlay-after to at a b))
overlay-after (x ∷ to) zero [] b = refl
overlay-after (x ∷ to) zero (y ∷ a) b =
    rw (zero-add (suc (length a)))
    (ap (λ (r : List ℕ). y ∷ r) (ap (λ n. overlay (overlay to zero a) n b) (sym (zero-add (length a))) ∙ overlay-after to zero a b))

-- What stands before the bytes that are laid over stays.
overlay-front : (to : List ℕ) (at : ℕ) (from : List ℕ) → take at (overlay to at from) ≡ take at to
unfolding overlay
overlay-front [] at from = refl
overlay-front (x ∷ to) zero from = refl
overlay-front (x ∷ to) (suc at) from = ap (λ (r : List ℕ). x ∷ r) (overlay-front to at from)

pub overlay-before : (to : List ℕ) (at : ℕ) (from : List ℕ) (a n : ℕ) → a + n ≤ at → part_at (overlay to at from) a n ≡ part_at to a n
overlay-before to at from a n h =
    sym (take-drop-take a n at (overlay to at from) h) ∙ ap (λ l. take n (drop a l)) (overlay-front to at from) ∙ take-drop-take a n at to h

-- Zeros with bytes laid over them read as those bytes.
pub overlay-zeros : (n : ℕ) (from : List ℕ) (i : ℕ) → i < n → byte_at (overlay (replicate n 0) 0 from) i ≡ byte_at from i
unfolding overlay
overlay-zeros zero from i h = absurd (not-suc-le-zero h)
overlay-zeros (suc n) [] i h = get_or-replicate (suc n) i 0 0 h
overlay-zeros (suc n) (x ∷ from) zero h = refl
overlay-zeros (suc n) (x ∷ from) (suc i) h = overlay-zeros n from i (le_of_suc-le-suc h)

-- A list that is written from its start, one part more.
pub overlay-next : (done part out old : List ℕ) (to : ℕ) → old ≡ done ++ drop (length done) out → to ≡ length done → length (done ++ part) ≤ length out
    → overlay old to part ≡ (done ++ part) ++ drop (length (done ++ part)) out
overlay-next done part out old to e t room =
    let both : length (done ++ part) ≡ length done + length part = length-append done part in
    let long : length old ≡ length out =
    ap length e ∙ length-append done (drop (length done) out) ∙ ap (λ n. length done + n) (length-drop (length done) out) ∙ omega arith in
    let inside : to + length part ≤ length old = omega arith in
    let front : take to old ≡ done = rw (e, t) (take-append_seam done (drop (length done) out)) in
    let back : drop (to + length part) old ≡ drop (length (done ++ part)) out =
    rw (e, t, both) (drop-append-add done (drop (length done) out) (length part) ∙ drop-drop (length part) (length done) out) in
    overlay-inside old to part inside ∙ ap₂ (λ a b. a ++ part ++ b) front back
