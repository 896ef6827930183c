-- Laws of the lookup's definitions, over all layouts.
use mathlib.Core.Path.{◌≡◌, refl, sym, ap, ◌∙◌}
use mathlib.Core.Bool.{Bool, true, false, not}
use mathlib.Core.List.{List, [], ◌∷◌}
use Prim.Native.Nat.{ℕ, ◌+◌, ◌*◌, ◌≤◌, ◌<◌}
use native.Mathlib.Nat.{zero-mul}
use native.Mathlib.Omega.{arith}
use lib.Dec.{eqb}
use lib.ListN.{length, drop, length-drop}
use lib.Seq.{take_all, drop-drop}
use borrow.Author.Tests.{lt-ltb, le-ltb, eq-eqb, ne_eqb, not-true, not-false}
use Rattle.parts.specs.Part.{part_at, same_bytes}
use Rattle.key.specs.Order.{compared, is_below, is_equal}
use Rattle.key.proofs.Laws.{equal-is-same}
use Rattle.refusal.specs.Check.{silent, refused}
use Rattle.refusal.specs.Number.{index_key_length}
use Rattle.refusal.proofs.Laws.{first_said, said, quiet, skip, after-said, after-quiet}
use Rattle.refusal.specs.Outcome.{Outcome, answered, absent, refusal}
use Rattle.halving.specs.declared.Halved.{Halved}
use Rattle.halving.specs.Halving.{halve, is_key_below, binary_digits}
use Rattle.halving.proofs.Laws.{halve-agree}
use Rattle.index_layout.specs.declared.Layout.{Layout}
use Rattle.index_layout.specs.Layout.{entry_size, full, on_page, entry_at, last_key_offset, layout_from, layout_of, key_at}
use Rattle.index_layout.specs.Entries.{size_at, location_at}
use Rattle.index_open.specs.Open.{opening}
use Rattle.index_open.proofs.Opened.{opened}
use Rattle.index_lookup.specs.Lookup.{stored_in, slot_halved, ended_at, ended_on, page_halved, ended_from}
use Rattle.index_lookup.specs.Lookup.{ended, end_outcome, key_check, lookup_of, most_of, bound_of}

-- ---- the keys that are halved over

-- A part of the rest of a list is a part of the list.
rest_part : (s : List ℕ) (base at n : ℕ) → part_at (part_at s base (length s)) at n ≡ part_at s (base + at) n
rest_part s base at n =
    let short : length (drop base s) ≤ length s = omega (arith, length-drop base s) in
    rw (take_all (length s) (drop base s) short, drop-drop at base s)

module _ (s sought : List ℕ) (l : Layout) (size : length sought ≡ l.key_length) where
  -- Keys that stand where the index has them, from a base on, are halved over as the index's own.
  halved-from : (keys : List ℕ) (base stride : ℕ) (at : ℕ → ℕ) → keys ≡ part_at s base (length s) → ((i : ℕ) → base + i * stride ≡ at i)
      → (w : ℕ) → halve (is_key_below keys stride sought) w ≡ halve (λ i. is_below (compared (part_at s (at i) l.key_length) sought)) w
  unfolding is_key_below
  halved-from keys base stride at e place w =
      halve-agree _ _ w
      (λ i h. ap (λ k. is_below (compared k sought)) (rw (e, rest_part s base (i * stride) (length sought), place i, size)))

  pub page-halved : (keys : List ℕ) (at : ℕ) (r : Halved) → keys ≡ part_at s at (length s) → at ≡ last_key_offset l 0
      → r ≡ halve (is_key_below keys l.key_length sought) l.pages → r ≡ page_halved (stored_in s l sought)
  unfolding page_halved stored_in last_key_offset
  page-halved keys at r e f h =
      h ∙ halved-from keys at l.key_length (last_key_offset l) e (λ p. rw (f, zero-mul l.key_length) (omega arith)) l.pages

  pub slot-halved : (keys : List ℕ) (p at stride count : ℕ) (r : Halved) → keys ≡ part_at s at (length s) → at ≡ entry_at l p 0
      → stride ≡ entry_size l → count ≡ on_page l p → r ≡ halve (is_key_below keys stride sought) count → r ≡ slot_halved (stored_in s l sought) p
  unfolding slot_halved stored_in entry_at
  slot-halved keys p at stride count r e f g c h =
      h ∙ rw c
      (halved-from keys at stride (entry_at l p) e (λ i. rw (f, g, zero-mul (entry_size l)) (omega arith)) (on_page l p))

-- ---- where a lookup ends

module _ (s sought : List ℕ) (l : Layout) where
  -- on a page, after some comparisons
  module _ (p count : ℕ) (h : Halved) (n : ℕ) (e : h ≡ slot_halved (stored_in s l sought) p) (g : n ≡ on_page l p) where
    pub no_slot : n ≤ h.place
        → absent (0 ∷ 0 ∷ 0 ∷ 0 ∷ (count + h.count) ∷ []) ≡ end_outcome s l (ended_on (stored_in s l sought) p count)
    unfolding end_outcome ended_on ended_at stored_in
    no_slot none = rw (← e, le-ltb h.place (on_page l p) (rw g at none))

    module _ (a : List ℕ) (at : ℕ) (t : Bool) (some : h.place < n) (f : at ≡ entry_at l p h.place)
        (k : a ≡ part_at s at l.key_length) (z : t ≡ same_bytes a sought) where
      same-there : is_equal (compared (key_at s l p h.place) sought) ≡ t
      same-there = equal-is-same _ sought ∙ sym (rw (k, f) at z)

      pub other_key : not t ≡ true
          → absent (0 ∷ 0 ∷ 0 ∷ 0 ∷ (count + h.count + 1) ∷ []) ≡ end_outcome s l (ended_on (stored_in s l sought) p count)
      unfolding end_outcome ended_on ended_at stored_in
      other_key x = rw (← e, lt-ltb h.place (on_page l p) (rw g at some), same-there, not-true t x)

      pub same_key : not t ≡ false
          → answered (p ∷ h.place ∷ size_at s l p h.place ∷ location_at s l p h.place ∷ (count + h.count + 1) ∷ [])
          ≡ end_outcome s l (ended_on (stored_in s l sought) p count)
      unfolding end_outcome ended_on ended_at stored_in
      same_key x = rw (← e, lt-ltb h.place (on_page l p) (rw g at some), same-there, not-false t x)

  -- on the last keys
  module _ (h : Halved) (e : h ≡ page_halved (stored_in s l sought)) where
    pub no-page : l.pages ≤ h.place → absent (0 ∷ 0 ∷ 0 ∷ 0 ∷ h.count ∷ []) ≡ end_outcome s l (ended (stored_in s l sought))
    unfolding end_outcome ended ended_from stored_in
    no-page none = rw (← e, le-ltb h.place l.pages none)

    pub on-page : (o : Outcome) → h.place < l.pages
        → o ≡ end_outcome s l (ended_on (stored_in s l sought) h.place h.count)
        → o ≡ end_outcome s l (ended (stored_in s l sought))
    unfolding ended ended_from stored_in
    on-page o some same = same ∙ rw (← e, lt-ltb h.place l.pages some)

-- ---- what the checks say

-- a number has room for the offset width of an opened index
pub width_fits : (s : List ℕ) → opening s ≡ silent → (layout_of s).offset_width ≤ 8
unfolding layout_from
width_fits s e = omega (arith, (opened s e).offset-high)

module _ (s sought : List ℕ) where
  pub not_opened : {number place : ℕ} → opening s ≡ refused number place → refusal number place ≡ lookup_of s sought
  unfolding lookup_of
  not_opened e = sym (after-said _ (first_said _ e))

  pub opened-lookup : opening s ≡ silent → length sought ≡ (layout_of s).key_length
      → lookup_of s sought ≡ end_outcome s (layout_of s) (ended (stored_in s (layout_of s) sought))
  unfolding lookup_of key_check
  opened-lookup e h =
      let right : not (eqb (length sought) (layout_of s).key_length) ≡ false = ap not (eq-eqb (length sought) (layout_of s).key_length h) in
      after-quiet _ (skip e (quiet index_key_length 0 refl right))

  module _ (l : Layout) (e : opening s ≡ silent) (g : l ≡ layout_of s) where
    pub other_length : (length sought ≡ l.key_length → ⊥) → refusal index_key_length 0 ≡ lookup_of s sought
    unfolding lookup_of key_check
    other_length h =
        let wrong : not (eqb (length sought) (layout_of s).key_length) ≡ true = ap not (ne_eqb (length sought) (layout_of s).key_length (rw g at h)) in
        sym (after-said _ (skip e (said refl wrong)))

    pub looked-up : (o : Outcome) → length sought ≡ l.key_length → o ≡ end_outcome s l (ended (stored_in s l sought)) → o ≡ lookup_of s sought
    looked-up o h same = (rw g at same) ∙ sym (opened-lookup e (rw g at h))

module _ (s : List ℕ) where
  pub bounded-by : (l : Layout) (a f b : ℕ) → opening s ≡ silent → l ≡ layout_of s → a ≡ binary_digits l.pages → f ≡ full l → b ≡ binary_digits f
      → answered ((a + b + 1) ∷ []) ≡ bound_of s
  unfolding bound_of most_of
  bounded-by l a f b e g ha hf hb = rw (ha, hb, hf, g) (sym (after-quiet _ e))
