-- The ids of a block one after the other, each in its range.
use mathlib.Core.Path.{◌≡◌, refl, sym, ap, ap₂, ◌∙◌, subst}
use mathlib.Core.Bool.{Bool, true, false, not, false≢true}
use mathlib.Core.List.{List, [], ◌∷◌}
use Prim.Native.Nat.{ℕ, zero, suc, ◌+◌, ◌-◌, ◌*◌, ◌^◌, ◌≤◌, ◌<◌}
use native.Mathlib.Nat.{zero-add, sub-zero}
use native.Mathlib.Numerals.{add-one}
use native.Mathlib.Omega.{arith}
use lib.IntN.{ℤ, pos, negsuc, ◌+ℤ◌, +ℤ_idl}
use lib.Signed.{mag}
use mir.Syntax.{w64}
use mir.Val.{SFits, to_z, of_z}
use mir.Facts.{to_z-of_z}
use borrow.Author.Tests.{not-false, leb-true}
use Rattle.parts.specs.Part.{byte_at}
use Rattle.numbers.specs.Number.{little_at}
use Rattle.refusal.specs.Check.{silent, refused, first_from}
use Rattle.refusal.specs.Number.{id_range}
use Rattle.refusal.proofs.Laws.{said, quiet, silent-test, from_each, upto-said, upto-quiet, upto-end}
use Rattle.root_block.specs.Ids.{signed, delta_at, id_at, most_id, in_range, id_check, ids_check}
use Rattle.root_block.proofs.Signed.{reckoned, one-fits, reckoned-is, reckoned-fits}

-- The id before id i; -1 before the first.
unfoldable pub id_before : List ℕ → ℕ → ℤ
id_before d zero = negsuc 0
id_before d (suc i) = id_at d i

pub id_next : (d : List ℕ) (i : ℕ) → id_at d i ≡ id_before d i +ℤ pos 1 +ℤ delta_at d i
unfolding id_at id_before
id_next d zero = sym (+ℤ_idl (delta_at d 0))
id_next d (suc i) = refl

-- a delta is read from its four bytes
pub delta-is : (d : List ℕ) (i at : ℕ) (r : ℤ) → at ≡ 4 * i
    → r ≡ signed (little_at (byte_at d at ∷ byte_at d (at + 1) ∷ byte_at d (at + 2) ∷ byte_at d (at + 3) ∷ []) 0 4)
    → r ≡ delta_at d i
unfolding delta_at little_at
delta-is d i at r p e =
    let two : at + 1 + 1 ≡ at + 2 = omega arith in
    let three : at + 2 + 1 ≡ at + 3 = omega arith in
    e ∙ rw (← p, two, three)

near-range : (z : ℤ) → in_range z ≡ true → mag z ≤ most_id
unfolding in_range
near-range (pos n) e = leb-true n most_id e
near-range (negsuc n) e = absurd (false≢true e)

-- The ids before id i are in range, and the last of them is at hand.
pub record Reckoned (d : List ℕ) (n place i : ℕ) (id : ℤ) : Type 0 where
  pub last : id ≡ id_before d i
  pub near : mag id ≤ most_id
  pub rest : ids_check d n place ≡ first_from (id_check d place) i (n - i)

pub reckoned-none : (d : List ℕ) (n place : ℕ) → Reckoned d n place 0 (negsuc 0)
unfolding id_before ids_check
reckoned-none d n place = record { last = refl; near = omega arith; rest = rw sub-zero }

module _ {d : List ℕ} {n place i : ℕ} (id : ℕ) (g : Reckoned d n place i (to_z w64 id)) where
  pub all-reckoned : n ≤ i → ids_check d n place ≡ silent
  all-reckoned l = g.rest ∙ upto-end (id_check d place) i n l

  module _ (r : ℤ) (small : mag r < 2147483648) where
    room : most_id + 2147483648 < 2 ^ 63
    room = omega arith

    pub one-more-fits : SFits w64 (to_z w64 id +ℤ pos 1)
    one-more-fits = one-fits id r most_id g.near room small

    pub id-fits : SFits w64 (reckoned id r)
    id-fits = reckoned-fits id r most_id g.near room small

    module _ (e : r ≡ delta_at d i) (l : i < n) where
      next : to_z w64 (of_z w64 (reckoned id r)) ≡ id_at d i
      next =
          to_z-of_z id-fits ∙ reckoned-is id r most_id g.near room small
          ∙ ap₂ (λ p q. p +ℤ pos 1 +ℤ q) g.last e
          ∙ sym (id_next d i)

      judged : {b : Bool} → in_range (to_z w64 (of_z w64 (reckoned id r))) ≡ b → not (in_range (id_at d i)) ≡ not b
      judged f = ap not (ap in_range (sym next) ∙ f)

      -- an id out of range is refused
      pub id-refused : in_range (to_z w64 (of_z w64 (reckoned id r))) ≡ false → ids_check d n place ≡ refused id_range place
      unfolding id_check
      id-refused f = g.rest ∙ upto-said (id_check d place) i n l (said refl (judged f))

      -- one in range is the last
      pub id-taken : in_range (to_z w64 (of_z w64 (reckoned id r))) ≡ true → Reckoned d n place (i + 1) (to_z w64 (of_z w64 (reckoned id r)))
      unfolding id_before id_check
      id-taken f = record {
        last = next ∙ sym (ap (id_before d) (add-one i));
        near = near-range _ f;
        rest = g.rest ∙ upto-quiet (id_check d place) i n l (quiet id_range place refl (judged f));
      }

-- ---- the ids of a block that passes

module _ (d : List ℕ) (n place : ℕ) (e : ids_check d n place ≡ silent) where
  pub id-in-range : (i : ℕ) → i < n → in_range (id_at d i) ≡ true
  unfolding ids_check id_check
  id-in-range i h = not-false (in_range (id_at d i)) (silent-test _ id_range place (simp zero-add at (from_each (id_check d place) 0 n e i h)))

  pub before-near : (i : ℕ) → i ≤ n → mag (id_before d i) ≤ most_id
  unfolding id_before
  before-near zero h = omega arith
  before-near (suc i) h = near-range (id_at d i) (id-in-range i h)

  -- the id of record i, as the code reckons it from the one before
  module _ (i last : ℕ) (before : to_z w64 last ≡ id_before d i) (h : i < n) (r : ℤ) (small : mag r < 2147483648) where
    last-near : mag (to_z w64 last) ≤ most_id
    last-near = subst (λ z. mag z ≤ most_id) (sym before) (before-near i (omega arith))

    sum_room : most_id + 2147483648 < 2 ^ 63
    sum_room = omega arith

    pub last_fits : SFits w64 (to_z w64 last +ℤ pos 1)
    last_fits = one-fits last r most_id last-near sum_room small

    pub next_fits : SFits w64 (reckoned last r)
    next_fits = reckoned-fits last r most_id last-near sum_room small

    module _ (q : r ≡ delta_at d i) where
      pub next-is : reckoned last r ≡ id_at d i
      next-is =
          reckoned-is last r most_id last-near sum_room small
          ∙ ap₂ (λ x y. x +ℤ pos 1 +ℤ y) before q
          ∙ sym (id_next d i)

      pub next-before : to_z w64 (of_z w64 (reckoned last r)) ≡ id_before d (i + 1)
      unfolding id_before
      next-before = to_z-of_z next_fits ∙ next-is ∙ ap (id_before d) (sym (add-one i))
