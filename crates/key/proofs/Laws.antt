-- Laws of the order of keys, over all lists and all widths.
use mathlib.Core.Path.{◌≡◌, refl, sym, ap, ap₂, ◌∙◌}
use mathlib.Core.Bool.{Bool, true, false}
use mathlib.Core.List.{List, [], ◌∷◌, ◌++◌}
use Prim.Native.Nat.{ℕ, zero, suc, ◌+◌, ◌*◌, ◌^◌, ◌≤◌, ◌<◌}
use native.Mathlib.Nat.{le_refl, zero-add, add_assoc, not-suc-le-zero}
use native.Mathlib.Decide.{dec_lt}
use native.Mathlib.Numerals.{add-one}
use native.Mathlib.Omega.{arith}
use lib.Arith.{digits_lt}
use lib.Dec.{lit<}
use lib.ListN.{length, take, drop, take-append-drop, drop_of_length-le, length-drop}
use lib.Seq.{drop-cons, drop-drop, get_or-drop}
use borrow.Author.Tests.{lt-ltb, le-ltb}
use Rattle.parts.specs.Part.{byte_at, part_at, same_bytes}
use Rattle.parts.proofs.Laws.{part_at-byte, same_bytes-of-eq, same_bytes-eq}
use Rattle.numbers.specs.Number.{big_at}
use Rattle.numbers.proofs.Laws.{big_at-agree, big_at-below}
use Rattle.std.specs.declared.cmp.Ordering.{Ordering}
use Rattle.std.specs.declared.cmp.Ordering.TheVariants.{Less, Equal, Greater}
use Rattle.std.specs.Int.{w64, from_be_bytes}
use Rattle.std.specs.Ordering.{nat_cmp, is_eq}
use Rattle.std.specs.Cmp.{nat_cmp_is}
use Rattle.key.specs.Order.{decided, compared, is_below, is_equal, is_above}
use Rattle.key.specs.Eight.{eight_at}

-- ---- the three outcomes

module _ {o : Ordering} where
  pub below-not-equal : o ≡ Less → o ≡ Equal → ⊥
  below-not-equal p q = let z : ◌≡◌ {A = ℕ} 0 1 = cc in omega arith

  pub below-not-above : o ≡ Less → o ≡ Greater → ⊥
  below-not-above p q = let z : ◌≡◌ {A = ℕ} 0 1 = cc in omega arith

  pub equal-not-above : o ≡ Equal → o ≡ Greater → ⊥
  equal-not-above p q = let z : ◌≡◌ {A = ℕ} 0 1 = cc in omega arith

pub is_below-true : (o : Ordering) → is_below o ≡ true → o ≡ Less
is_below-true Less e = refl
is_below-true Equal e = cc
is_below-true Greater e = cc

pub is_equal-true : (o : Ordering) → is_equal o ≡ true → o ≡ Equal
is_equal-true Less e = cc
is_equal-true Equal e = refl
is_equal-true Greater e = cc

pub is_eq-is : (o : Ordering) → is_eq o ≡ is_equal o
is_eq-is Less = refl
is_eq-is Equal = refl
is_eq-is Greater = refl

-- ---- the first bytes

by_order : {P : Type 0} (x y : ℕ) → (x < y → P) → (x ≡ y → P) → (y < x → P) → P
by_order {P} x y less same greater = go (dec_lt x y) (dec_lt y x)
  where
    go : Dec (x < y) → Dec (y < x) → P
    go (yes l) d = less l
    go (no l) (yes m) = greater m
    go (no l) (no m) = same (omega arith)

module _ (a b : List ℕ) where
  pub first_below : {x y : ℕ} → x < y → compared (x ∷ a) (y ∷ b) ≡ Less
  unfolding compared decided
  first_below {x} {y} l = rw (lt-ltb x y l)

  pub first_above : {x y : ℕ} → y < x → compared (x ∷ a) (y ∷ b) ≡ Greater
  unfolding compared decided
  first_above {x} {y} l = rw (le-ltb x y (omega arith), lt-ltb y x l)

  pub first-same : (x : ℕ) → compared (x ∷ a) (x ∷ b) ≡ compared a b
  unfolding compared decided
  first-same x = rw (le-ltb x x (le_refl x))

-- A list is below another where its first byte is not above and, if the first bytes are the same, the rest is below.
module _ (x y : ℕ) (a b : List ℕ) where
  pub below-of-first : x ≤ y → (x ≡ y → compared a b ≡ Less) → compared (x ∷ a) (y ∷ b) ≡ Less
  below-of-first l rest =
      by_order x y (first_below a b) (λ e. cc (first-same a b x, rest e)) (λ m. absurd (omega arith))

  pub first-of-below : compared (x ∷ a) (y ∷ b) ≡ Less → (x ≤ y) × (x ≡ y → compared a b ≡ Less)
  first-of-below h = (
    by_order x y (λ l. omega arith) (λ e. omega arith) (λ l. absurd (below-not-above h (first_above a b l))),
    λ e. cc (first-same a b x),
  )

-- ---- equal

pub compared-refl : (a : List ℕ) → compared a a ≡ Equal
unfolding compared
compared-refl [] = refl
compared-refl (x ∷ a) = first-same a a x ∙ compared-refl a

pub equal-of-eq : (a b : List ℕ) → a ≡ b → compared a b ≡ Equal
equal-of-eq a b e = cc (compared-refl a)

pub eq-of-equal : (a b : List ℕ) → compared a b ≡ Equal → a ≡ b
unfolding compared
eq-of-equal [] [] h = refl
eq-of-equal [] (y ∷ b) h = cc
eq-of-equal (x ∷ a) [] h = cc
eq-of-equal (x ∷ a) (y ∷ b) h =
    by_order x y (λ l. absurd (below-not-equal (first_below a b l) h))
    (λ e. ap₂ ◌∷◌ e (eq-of-equal a b (cc (first-same a b x))))
    (λ l. absurd (equal-not-above h (first_above a b l)))

-- Equal keys are the same bytes.
pub equal-is-same : (a b : List ℕ) → is_equal (compared a b) ≡ same_bytes a b
equal-is-same a b = by (same_bytes a b) refl (is_equal (compared a b)) refl
  where
    by : (t : Bool) → same_bytes a b ≡ t → (u : Bool) → is_equal (compared a b) ≡ u → u ≡ t
    by true e true f = refl
    by false e false f = refl
    by true e false f = sym f ∙ ap is_equal (equal-of-eq a b (same_bytes-eq a b e))
    by false e true f = sym (same_bytes-of-eq a b (eq-of-equal a b (is_equal-true _ f))) ∙ e

-- ---- exchanged

abbrev exchanged : Ordering → Ordering
exchanged Less = Greater
exchanged Equal = Equal
exchanged Greater = Less

compared-exchanged : (a b : List ℕ) → compared b a ≡ exchanged (compared a b)
unfolding compared
compared-exchanged [] [] = refl
compared-exchanged [] (y ∷ b) = refl
compared-exchanged (x ∷ a) [] = refl
compared-exchanged (x ∷ a) (y ∷ b) =
    by_order x y (λ l. cc (first_below a b l, first_above b a l))
    (λ e. cc (first-same a b x, first-same b a x, compared-exchanged a b))
    (λ l. cc (first_above a b l, first_below b a l))

pub above-is-below : (a b : List ℕ) → is_above (compared a b) ≡ is_below (compared b a)
above-is-below a b = go (compared a b) ∙ ap is_below (sym (compared-exchanged a b))
  where
    go : (o : Ordering) → is_above o ≡ is_below (exchanged o)
    go Less = refl
    go Equal = refl
    go Greater = refl

pub above-of-below : (a b : List ℕ) → compared a b ≡ Less → compared b a ≡ Greater
above-of-below a b h = cc (compared-exchanged a b)

pub below-of-above : (a b : List ℕ) → compared a b ≡ Greater → compared b a ≡ Less
below-of-above a b h = cc (compared-exchanged a b)

-- ---- below

pub never-below-itself : (a : List ℕ) → compared a a ≡ Less → ⊥
never-below-itself a h = below-not-equal h (compared-refl a)

never-below-none : (a : List ℕ) → compared a [] ≡ Less → ⊥
unfolding compared
never-below-none [] h = below-not-equal h refl
never-below-none (x ∷ a) h = below-not-above h refl

pub below-trans : (a b c : List ℕ) → compared a b ≡ Less → compared b c ≡ Less → compared a c ≡ Less
unfolding compared
below-trans [] b [] h k = absurd (never-below-none b k)
below-trans [] b (z ∷ c) h k = refl
below-trans (x ∷ a) [] c h k = absurd (never-below-none (x ∷ a) h)
below-trans (x ∷ a) (y ∷ b) [] h k = absurd (never-below-none (y ∷ b) k)
below-trans (x ∷ a) (y ∷ b) (z ∷ c) h k =
    let p = first-of-below x y a b h in
    let q = first-of-below y z b c k in
    below-of-first x z a c (omega arith) (λ e. below-trans a b c (p.1 (omega arith)) (q.1 (omega arith)))

pub below-then-equal : (a b c : List ℕ) → compared a b ≡ Less → compared b c ≡ Equal → compared a c ≡ Less
below-then-equal a b c h k = cc (eq-of-equal b c k)

pub equal-then-below : (a b c : List ℕ) → compared a b ≡ Equal → compared b c ≡ Less → compared a c ≡ Less
equal-then-below a b c h k = cc (eq-of-equal a b h)

pub below-then-not-above : (a b c : List ℕ) → compared a b ≡ Less → (compared b c ≡ Greater → ⊥) → compared a c ≡ Less
below-then-not-above a b c below h = go (compared b c) refl
  where
    go : (o : Ordering) → compared b c ≡ o → compared a c ≡ Less
    go Less e = below-trans a b c below e
    go Equal e = below-then-equal a b c below e
    go Greater e = absurd (h e)

-- ---- a common beginning

pub compared-append : (p a b : List ℕ) → compared (p ++ a) (p ++ b) ≡ compared a b
compared-append [] a b = refl
compared-append (x ∷ p) a b = first-same (p ++ a) (p ++ b) x ∙ compared-append p a b

pub compared-drop : (w : ℕ) (a b : List ℕ) → take w a ≡ take w b → compared a b ≡ compared (drop w a) (drop w b)
compared-drop w a b e =
    cc (take-append-drop w a, take-append-drop w b, compared-append (take w a) (drop w a) (drop w b))

-- ---- byte by byte

-- What is left from an offset on stands as what is left from another one does.
pub record Passed (a b : List ℕ) (from at : ℕ) : Type 0 where
  pub rest : compared (drop from a) (drop from b) ≡ compared (drop at a) (drop at b)

pub passed_none : (a b : List ℕ) (from : ℕ) → Passed a b from from
passed_none a b from = record { rest = refl }

module _ {a b : List ℕ} {from at : ℕ} (p : Passed a b from at) where
  module _ (l : at < length a) (m : at < length b) where
    opened : compared (drop from a) (drop from b) ≡ compared (byte_at a at ∷ drop (suc at) a) (byte_at b at ∷ drop (suc at) b)
    opened = p.rest ∙ rw (drop-cons a at 0 l, drop-cons b at 0 m)

    pub below_at : byte_at a at < byte_at b at → compared (drop from a) (drop from b) ≡ Less
    below_at h = opened ∙ first_below _ _ h

    pub above_at : byte_at b at < byte_at a at → compared (drop from a) (drop from b) ≡ Greater
    above_at h = opened ∙ first_above _ _ h

    pub differ_at : (byte_at a at ≡ byte_at b at → ⊥) → nat_cmp (byte_at a at) (byte_at b at) ≡ compared (drop from a) (drop from b)
    differ_at h =
        by_order (byte_at a at) (byte_at b at) (λ l. sym (nat_cmp_is _ _ Less l) ∙ sym (below_at l)) (λ e. absurd (h e))
        (λ l. sym (nat_cmp_is _ _ Greater l) ∙ sym (above_at l))

    pub passed-more : byte_at a at ≡ byte_at b at → Passed a b from (at + 1)
    passed-more e = record { rest = opened ∙ rw (e, add-one) (first-same _ _ _) }

  pub equal-at-end : length a ≤ at → length b ≤ at → compared (drop from a) (drop from b) ≡ Equal
  equal-at-end l m = p.rest ∙ rw (drop_of_length-le a l, drop_of_length-le b m) (compared-refl [])

  pub below-at-end : length a ≤ at → at < length b → compared (drop from a) (drop from b) ≡ Less
  unfolding compared
  below-at-end l m = p.rest ∙ rw (drop_of_length-le a l, drop-cons b at 0 m)

  pub above-at-end : at < length a → length b ≤ at → compared (drop from a) (drop from b) ≡ Greater
  unfolding compared
  above-at-end l m = p.rest ∙ rw (drop-cons a at 0 l, drop_of_length-le b m)

-- ---- many bytes at once

-- Every element is a byte.
abbrev pub Bytes : List ℕ → Type 0
Bytes s = (i : ℕ) → byte_at s i < 256

-- A part of bytes has bytes alone.
take-bytes : (n : ℕ) (s : List ℕ) → Bytes s → Bytes (take n s)
take-bytes zero s h i = lit< tt
take-bytes (suc n) [] h i = lit< tt
take-bytes (suc n) (x ∷ s) h zero = h 0
take-bytes (suc n) (x ∷ s) h (suc i) = take-bytes n s (λ j. h (suc j)) i

pub part_bytes : (s : List ℕ) (at count : ℕ) → Bytes s → Bytes (part_at s at count)
part_bytes s at count h = take-bytes count (drop at s) (λ i. rw (get_or-drop at s i 0) (h (at + i)))

-- The number in front of a part is the number at its place.
pub part-number : (s : List ℕ) (at count w : ℕ) → w ≤ count → big_at (part_at s at count) 0 w ≡ big_at s at w
part-number s at count w h =
    big_at-agree (part_at s at count) s 0 at w (λ i l. rw (zero-add i) (part_at-byte s at count i (omega arith)))

-- The number at an offset is the first one of what is left from there on.
pub big_at-drop : (s : List ℕ) (at w : ℕ) → big_at (drop at s) 0 w ≡ big_at s at w
big_at-drop s at w = big_at-agree (drop at s) s 0 at w (λ i l. rw (zero-add, get_or-drop))

big_at-none : (at w : ℕ) → big_at [] at w ≡ 0
unfolding big_at
big_at-none at zero = refl
big_at-none at (suc w) = rw (big_at-none (at + 1) w) (omega arith)

digits_le : (x y : ℕ) {p r : ℕ} → r < p → x * p ≤ y * p + r → x ≤ y
digits_le x y l h = by_order x y (λ m. omega arith) (λ e. omega arith) (λ m. absurd (omega (arith, digits_lt m l)))

-- The lower number of the first w bytes is the lower list. A byte past the end counts as 0, so no length is asked for.
pub below-of-big_at : (w : ℕ) (a b : List ℕ) → Bytes b → big_at a 0 w < big_at b 0 w → compared a b ≡ Less
unfolding big_at compared
below-of-big_at zero a b v h = absurd (omega arith)
below-of-big_at (suc w) a [] v h = absurd (omega (arith, big_at-none 1 w))
below-of-big_at (suc w) [] (y ∷ b) v h = refl
below-of-big_at (suc w) (x ∷ a) (y ∷ b) v h =
    let p = big_at-drop (x ∷ a) 1 w in
    let q = big_at-drop (y ∷ b) 1 w in
    below-of-first x y a b (digits_le x y (big_at-below b (λ i. v (suc i)) 0 w) (omega arith))
    (λ e. below-of-big_at w a b (λ i. v (suc i)) (omega (arith, ap (λ (n : ℕ). n * 256 ^ w) e)))

pub above-of-big_at : (w : ℕ) (a b : List ℕ) → Bytes a → big_at b 0 w < big_at a 0 w → compared a b ≡ Greater
above-of-big_at w a b u h = above-of-below b a (below-of-big_at w b a u h)

-- Where both have w bytes, the same number means the same bytes.
pub take-of-big_at : (w : ℕ) (a b : List ℕ) → Bytes a → Bytes b → w ≤ length a → w ≤ length b → big_at a 0 w ≡ big_at b 0 w → take w a ≡ take w b
unfolding big_at
take-of-big_at zero a b u v l m h = refl
take-of-big_at (suc w) [] b u v l m h = absurd (not-suc-le-zero l)
take-of-big_at (suc w) (x ∷ a) [] u v l m h = absurd (not-suc-le-zero m)
take-of-big_at (suc w) (x ∷ a) (y ∷ b) u v l m h =
    let p = big_at-drop (x ∷ a) 1 w in
    let q = big_at-drop (y ∷ b) 1 w in
    let x≤y = digits_le x y (big_at-below b (λ i. v (suc i)) 0 w) (omega arith) in
    let y≤x = digits_le y x (big_at-below a (λ i. u (suc i)) 0 w) (omega arith) in
    let e : x ≡ y = omega arith in
    ap₂ ◌∷◌ e
    (take-of-big_at w a b (λ i. u (suc i)) (λ i. v (suc i)) (omega arith) (omega arith)
    (omega (arith, ap (λ (n : ℕ). n * 256 ^ w) e)))

pub drop-of-big_at : (w : ℕ) (a b : List ℕ) → Bytes a → Bytes b → w ≤ length a → w ≤ length b → big_at a 0 w ≡ big_at b 0 w
    → compared a b ≡ compared (drop w a) (drop w b)
drop-of-big_at w a b u v l m h = compared-drop w a b (take-of-big_at w a b u v l m h)

-- ---- eight bytes at once

-- Eight bytes as std reads them.
pub eight-read : (s : List ℕ) (at : ℕ)
    → from_be_bytes w64 (byte_at s at ∷ byte_at s (at + 1) ∷ byte_at s (at + 2) ∷ byte_at s (at + 3) ∷ byte_at s (at + 4) ∷ byte_at s (at + 5)
    ∷ byte_at s (at + 6) ∷ byte_at s (at + 7) ∷ [])
    ≡ big_at s at 8
unfolding big_at
eight-read s at = rw (add_assoc at 1 1, add_assoc at 2 1, add_assoc at 3 1, add_assoc at 4 1, add_assoc at 5 1, add_assoc at 6 1) (omega arith)

module _ (s : List ℕ) (at : ℕ) where
  pub eight-there : at + 8 ≤ length s → eight_at s at ≡ big_at s at 8
  unfolding eight_at
  eight-there h = rw (le-ltb (length s) (at + 8) h)

  pub eight-short : length s < at + 8 → eight_at s at ≡ 0
  unfolding eight_at
  eight-short h = rw (lt-ltb (length s) (at + 8) h)

  -- Where the read is not 0, the bytes are there.
  pub eight-some : 0 < eight_at s at → eight_at s at ≡ big_at s at 8
  eight-some h = go (dec_lt (length s) (at + 8))
    where
      go : Dec (length s < at + 8) → eight_at s at ≡ big_at s at 8
      go (yes l) = absurd (omega (arith, eight-short l))
      go (no l) = eight-there (omega arith)

drop-bytes : (s : List ℕ) (at : ℕ) → Bytes s → Bytes (drop at s)
drop-bytes s at h i = rw (get_or-drop at s i 0) (h (at + i))

module _ {a b : List ℕ} {from at : ℕ} (p : Passed a b from at) (u : Bytes a) (v : Bytes b) where
  pub below-eight : big_at a at 8 < big_at b at 8 → compared (drop from a) (drop from b) ≡ Less
  below-eight h = p.rest ∙ below-of-big_at 8 (drop at a) (drop at b) (drop-bytes b at v) (rw (big_at-drop a at 8, big_at-drop b at 8) h)

  pub above-eight : big_at b at 8 < big_at a at 8 → compared (drop from a) (drop from b) ≡ Greater
  above-eight h = p.rest ∙ above-of-big_at 8 (drop at a) (drop at b) (drop-bytes a at u) (rw (big_at-drop a at 8, big_at-drop b at 8) h)

  pub passed-eight : at + 8 ≤ length a → at + 8 ≤ length b → big_at a at 8 ≡ big_at b at 8 → Passed a b from (at + 8)
  passed-eight l m h = record {
    rest = p.rest
        ∙ drop-of-big_at 8 (drop at a) (drop at b) (drop-bytes a at u) (drop-bytes b at v)
        (omega (arith, length-drop at a)) (omega (arith, length-drop at b)) (rw (big_at-drop a at 8, big_at-drop b at 8) h)
        ∙ rw (drop-drop 8 at a, drop-drop 8 at b);
  }

  pub told-eight : (big_at a at 8 ≡ big_at b at 8 → ⊥) → nat_cmp (big_at a at 8) (big_at b at 8) ≡ compared (drop from a) (drop from b)
  told-eight h =
      by_order (big_at a at 8) (big_at b at 8) (λ l. sym (nat_cmp_is _ _ Less l) ∙ sym (below-eight l)) (λ e. absurd (h e))
      (λ l. sym (nat_cmp_is _ _ Greater l) ∙ sym (above-eight l))

  pub differ-eight : (big_at a at 8 ≡ big_at b at 8 → ⊥) → same_bytes (drop from a) (drop from b) ≡ false
  differ-eight h =
      sym (equal-is-same (drop from a) (drop from b))
      ∙ by_order (big_at a at 8) (big_at b at 8) (λ l. ap is_equal (below-eight l)) (λ e. absurd (h e)) (λ l. ap is_equal (above-eight l))
