-- Ranges that the halving rule comes to, step by step, and what the first eight bytes of keys tell.
use mathlib.Core.Path.{◌≡◌, refl, sym, ap, ◌∙◌}
use mathlib.Core.Bool.{Bool, true, false, cond}
use mathlib.Core.List.{List}
use Prim.Native.Nat.{ℕ, ◌+◌, ◌*◌, ◌≤◌, ◌<◌}
use native.Mathlib.Nat.{suc-mul, mul-le-mul_right}
use native.Mathlib.Omega.{arith}
use lib.Dec.{ltb}
use lib.ListN.{length}
use borrow.Author.Tests.{lt-ltb, le-ltb}
use Rattle.parts.specs.Part.{part_at}
use Rattle.numbers.specs.Number.{big_at}
use Rattle.key.specs.Eight.{eight_at}
use Rattle.key.specs.Order.{is_below}
use Rattle.key.proofs.Laws.{Bytes, part_bytes, part-number, below-of-big_at, above-of-big_at, eight-there}
use Rattle.halving.specs.declared.Range.{Range}
use Rattle.halving.specs.declared.Fronts.{Fronts}
use Rattle.halving.specs.Halving.{halved_from, is_key_below}
use Rattle.halving.specs.Range.{Holds, middle_of, next_of, front_of, fronts_of, Told, Leads}
use Rattle.halving.proofs.Laws.{by_order}
use Rattle.halving.proofs.Rule.{halving-rule}

-- ---- one step

-- A step leaves half of the other keys.
pub next-holds : (n : ℕ) (r : Range) (b : Bool) → Holds (2 * n + 1) r → Holds n (next_of r b)
next-holds n r true h = record {
  keys = omega (arith, h.keys);
  places = omega (arith, h.keys, h.places);
  counts = omega (arith, h.keys, h.counts);
}
next-holds n r false h = record {
  keys = omega (arith, h.keys);
  places = omega (arith, h.keys, h.places);
  counts = omega (arith, h.keys, h.counts);
}

-- A step leaves fewer keys.
pub next-less : (r : Range) (b : Bool) → 0 < r.left → (next_of r b).left < r.left
next-less r true some = omega arith
next-less r false some = omega arith

pub next-left : (r : Range) (b : Bool) → (next_of r b).left ≤ r.left
next-left r true = omega arith
next-left r false = omega arith

module _ {below : ℕ → Bool} where
  pub leads-on : {q r s : Range} → Leads below q r → Leads below r s → Leads below q s
  leads-on a b = record {
    places = omega (arith, a.places, b.places);
    counts = omega (arith, a.counts, b.counts);
    same = a.same ∙ b.same;
  }

  pub leads-next : (r : Range) (b : Bool) → 0 < r.left → below (middle_of r) ≡ b → Leads below r (next_of r b)
  leads-next r true some e = record {
    places = omega arith;
    counts = omega arith;
    same = (halving-rule below).below_sought r.start r.left r.count some e;
  }
  leads-next r false some e = record {
    places = omega arith;
    counts = omega arith;
    same = (halving-rule below).not_below r.start r.left r.count some e;
  }

  -- Where no key is left, the rule stops.
  pub leads-end : {from to : Range} → Leads below from to → to.left ≤ 0
      → halved_from below from.start from.left from.count ≡ record { place = to.start; count = to.count }
  leads-end {from} {to} a none =
      let e : to.left ≡ 0 = omega arith in
      a.same ∙ ap (λ left. halved_from below to.start left to.count) e ∙ (halving-rule below).none_left to.start to.count

-- ---- what is read beforehand

module _ (keys : List ℕ) (stride : ℕ) (r : Range) where
  pub picked-fronts : (b : Bool)
      → cond b (fronts_of keys stride (next_of r true)) (fronts_of keys stride (next_of r false)) ≡ fronts_of keys stride (next_of r b)
  picked-fronts true = refl
  picked-fronts false = refl

  pub picked-front : (b : Bool) → cond b (fronts_of keys stride r).after (fronts_of keys stride r).before ≡ front_of keys stride (next_of r b)
  picked-front true = refl
  picked-front false = refl

-- ---- what the first eight bytes tell

module _ {keys : List ℕ} {stride sought : ℕ} {below : ℕ → Bool} where
  pub told-within : {w v : ℕ} → v ≤ w → Told keys stride sought w below → Told keys stride sought v below
  told-within h told = record { tells = λ i l. told.tells i (omega arith) }

  pub leads-told : (r : Range) → 0 < r.left → Told keys stride sought (r.start + r.left) below → (front_of keys stride r ≡ sought → ⊥)
      → Leads below r (next_of r (ltb (front_of keys stride r) sought))
  leads-told r some told other = leads-next r _ some (told.tells (middle_of r) (omega arith) other)

-- Three steps by what was read of seven keys.
module _ (keys : List ℕ) (stride sought : ℕ) (r one two to : Range) (before after then : Fronts) (x z : ℕ) (h : Holds 7 r)
    (x-is : x ≡ front_of keys stride r) (before-is : before ≡ fronts_of keys stride (next_of r false))
    (after_is : after ≡ fronts_of keys stride (next_of r true))
    (one-is : one ≡ next_of r (ltb x sought)) (then_is : then ≡ cond (ltb x sought) after before)
    (z-is : z ≡ cond (ltb then.middle sought) then.after then.before)
    (two_is : two ≡ next_of one (ltb then.middle sought)) (to_is : to ≡ next_of two (ltb z sought)) where
  then-fronts : then ≡ fronts_of keys stride one
  then-fronts = then_is ∙ rw (before-is, after_is) (picked-fronts keys stride r _) ∙ ap (fronts_of keys stride) (sym one-is)

  y-front : then.middle ≡ front_of keys stride one
  y-front = ap (λ f. f.middle) then-fronts

  z-front : z ≡ front_of keys stride two
  z-front = z-is ∙ ap (λ f. cond (ltb then.middle sought) f.after f.before) then-fronts
      ∙ picked-front keys stride one _ ∙ ap (front_of keys stride) (sym two_is)

  one_holds : Holds 3 one
  one_holds = rw one-is (next-holds 3 r _ h)

  two-holds : Holds 1 two
  two-holds = rw two_is (next-holds 1 one _ one_holds)

  three-left : to.left ≤ r.left
  three-left = omega (
    arith,
    ap (λ q. q.left) one-is,
    ap (λ q. q.left) two_is,
    ap (λ q. q.left) to_is,
    next-left r (ltb x sought),
    next-left one (ltb then.middle sought),
    next-left two (ltb z sought),
  )

  three-lead : (x ≡ sought → ⊥) → (then.middle ≡ sought → ⊥) → (z ≡ sought → ⊥)
      → (below : ℕ → Bool) → Told keys stride sought (r.start + r.left) below → Leads below r to
  three-lead x-other y-other z-other below told =
      let first : Leads below r one = rw (one-is, x-is) (leads-told r (omega (arith, h.keys)) told (λ e. x-other (x-is ∙ e))) in
      let second : Leads below one two = rw (two_is, y-front)
      (leads-told one (omega (arith, one_holds.keys)) (told-within first.places told) (λ e. y-other (y-front ∙ e))) in
      let third : Leads below two to = rw (to_is, z-front)
      (leads-told two two-holds.keys (told-within (leads-on first second).places told) (λ e. z-other (z-front ∙ e))) in
      leads-on first (leads-on second third)

  pub three_made : (x ≡ sought → ⊥) → (then.middle ≡ sought → ⊥) → (z ≡ sought → ⊥)
      → ((below : ℕ → Bool) → Told keys stride sought (r.start + r.left) below → Leads below r to) × (to.left ≤ r.left)
  three_made x-other y-other z-other = (three-lead x-other y-other z-other, three-left)

module _ (keys key : List ℕ) (stride count : ℕ) (u : Bytes keys) (v : Bytes key) (wide : 8 ≤ length key) (apart : 8 ≤ stride)
    (room : count * stride ≤ length keys) where
  key-inside : (i : ℕ) → i < count → i * stride + 8 ≤ length keys
  key-inside i l = omega (arith, suc-mul i stride, mul-le-mul_right stride l)

  pub key-told : Told keys stride (eight_at key 0) count (is_key_below keys stride key)
  unfolding is_key_below
  key-told = record {
    tells = λ i l other.
        let at = i * stride in
        let x : eight_at keys at ≡ big_at keys at 8 = eight-there keys at (key-inside i l) in
        let y : eight_at key 0 ≡ big_at key 0 8 = eight-there key 0 wide in
        let front = part-number keys at (length key) 8 wide in
        by_order (eight_at keys at) (eight_at key 0)
        (λ less. ap is_below (below-of-big_at 8 (part_at keys at (length key)) key v (omega (arith, x, y, front))) ∙ sym (lt-ltb _ _ less))
        (λ more. by_order (eight_at key 0) (eight_at keys at)
        (λ greater. ap is_below (above-of-big_at 8 (part_at keys at (length key)) key (part_bytes keys at (length key) u) (omega (arith, x, y, front)))
        ∙ sym (le-ltb _ _ more))
        (λ less. absurd (other (omega arith))));
  }
