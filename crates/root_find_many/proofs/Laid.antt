-- Laws of entries in the output: what an entry that is laid over changes, and what it keeps.
use mathlib.Core.Path.{◌≡◌, refl, sym, ap, ap₂, ◌∙◌}
use mathlib.Core.Bool.{true, ◌&&◌, cond, and-false}
use mathlib.Core.List.{List, [], ◌∷◌, ◌++◌}
use Prim.Native.Nat.{ℕ, zero, suc, ◌+◌, ◌*◌, ◌≤◌, ◌<◌}
use native.Mathlib.Omega.{arith}
use lib.Dec.{ltb, eqb}
use lib.ListN.{length, take, drop, replicate, length-append, length-drop}
use lib.Seq.{drop-append-add}
use borrow.Author.Tests.{eq-eqb, ne_eqb, eqb-true, eqb-false, lt-ltb, le-ltb, ltb-true, ltb-false}
use Rattle.parts.specs.Part.{byte_at, part_at, overlay, parts_from}
use Rattle.parts.proofs.Laws.{by-test, part_at-byte, overlay-length, overlay-none, overlay-before, overlay-inside}
use Rattle.parts.proofs.Parts.{parts-length, parts-part, part-laid}
use Rattle.root.specs.Lookup.{first_of, key_told, key_or}
use Rattle.root.proofs.First.{key-laid}
use Rattle.id_list.specs.Ids.{id_count, id_at}
use Rattle.root_find_many.specs.Many.{found_flag, entry_for}
use Rattle.root_find_many.specs.Entries.{entry_at, Room, Held, Kept, found_entry, turned, entry_by}

-- ---- bytes laid over others

drop-overlay : (to : List ℕ) (at : ℕ) (from : List ℕ) (a : ℕ) → at + length from ≤ a → drop a (overlay to at from) ≡ drop a to
unfolding overlay
drop-overlay [] at from a h = refl
drop-overlay (x ∷ to) zero [] a h = refl
drop-overlay (x ∷ to) zero (y ∷ from) zero h = absurd (omega arith)
drop-overlay (x ∷ to) zero (y ∷ from) (suc a) h = drop-overlay to zero from a (omega arith)
drop-overlay (x ∷ to) (suc at) from zero h = absurd (omega arith)
drop-overlay (x ∷ to) (suc at) from (suc a) h = drop-overlay to at from a (omega arith)

overlay-there : (to : List ℕ) (at : ℕ) (from : List ℕ) → at + length from ≤ length to → part_at (overlay to at from) at (length from) ≡ from
unfolding overlay
overlay-there [] at [] h = refl
overlay-there [] at (y ∷ from) h = absurd (omega arith)
overlay-there (x ∷ to) (suc at) from h = overlay-there to at from (omega arith)
overlay-there (x ∷ to) zero [] h = refl
overlay-there (x ∷ to) zero (y ∷ from) h = ap (λ r. y ∷ r) (overlay-there to zero from (omega arith))

-- the entry of an id that is found: 1 and three zeros, with the key laid behind them
pub entry-laid : (s : List ℕ) (at : ℕ) → at + 16 ≤ length s → overlay (1 ∷ 0 ∷ 0 ∷ 0 ∷ replicate 16 0) 4 (part_at s at 16) ≡ found_entry s at
unfolding overlay entry_for found_flag key_or
entry-laid s at h = ap (λ k. 1 ∷ 0 ∷ 0 ∷ 0 ∷ k) (key-laid s at h)

-- ---- entries of zeros

abbrev pub blank : ℕ → List ℕ
blank i = replicate 20 0

module _ (out : List ℕ) where
  pub zeros-none : out ≡ overlay out 0 (parts_from blank 0 0)
  unfolding parts_from
  zeros-none = sym (overlay-none out 0)

  zeros-length : (n : ℕ) → length (parts_from blank 0 n) ≡ 20 * n
  zeros-length n = parts-length blank 20 0 n (λ j a b. refl) ∙ omega arith

  pub zeros-next : (i : ℕ) (old : List ℕ) → old ≡ overlay out 0 (parts_from blank 0 i)
      → overlay old (20 * i) (blank i) ≡ overlay out 0 (parts_from blank 0 (i + 1))
  zeros-next i old e = (part-laid blank i (blank i) out old 0 (20 * i) refl (omega (arith, zeros-length i)) e).1

  pub zeros-all : (n : ℕ) (new : List ℕ) → 20 * n ≤ length out → new ≡ overlay out 0 (parts_from blank 0 n) → new ≡ parts_from blank 0 n ++ drop (20 * n) out
  zeros-all n new room e =
      let long = zeros-length n in
      let same : 0 + length (parts_from blank 0 n) ≡ 20 * n = omega arith in
      e ∙ overlay-inside out 0 (parts_from blank 0 n) (omega arith)
      ∙ ap (λ k. parts_from blank 0 n ++ drop k out) same

-- ---- what is kept

pub kept_same : (ids out : List ℕ) → Kept ids out out
kept_same ids out = record { size = refl; rest = refl }

pub kept_on : {ids a b c : List ℕ} → Kept ids a b → Kept ids b c → Kept ids a c
kept_on p q = record { size = q.size ∙ p.size; rest = q.rest ∙ p.rest }

pub kept-room : {ids a b : List ℕ} → Room ids a → Kept ids a b → Room ids b
kept-room r k = record { room = omega (arith, r.room, k.size) }

module _ (ids old new : List ℕ) (room : Room ids old) (e : new ≡ parts_from blank 0 (id_count ids) ++ drop (20 * id_count ids) old) where
  pub cleared-kept : Kept ids old new
  cleared-kept =
      let n = id_count ids in
      let long : length (parts_from blank 0 n) ≡ 20 * n = zeros-length old n in
      let behind : 20 * n ≡ length (parts_from blank 0 n) + 0 = omega arith in
      record {
        size = ap length e ∙ length-append (parts_from blank 0 n) (drop (20 * n) old) ∙ omega (arith, length-drop (20 * n) old, room.room);
        rest = ap₂ drop behind e ∙ drop-append-add (parts_from blank 0 n) (drop (20 * n) old) 0;
      }

  pub cleared-held : (s : List ℕ) (locale unwanted : ℕ) → Held ids new (entry_by s locale unwanted [])
  unfolding entry_by first_of key_told entry_for found_flag key_or
  cleared-held s locale unwanted = record {
    each = λ j l. ap (λ r. entry_at r j) e ∙ parts-part blank 20 (id_count ids) (drop (20 * id_count ids) old) (λ k h. refl) j l;
  }

-- ---- an entry for each of them

-- The ids up to i that equal the sought one have the entry.
pub record Putting (ids entry : List ℕ) (id from i : ℕ) (old new : List ℕ) : Type 0 where
  pub forward : from ≤ i
  pub kept : Kept ids old new
  pub laid : (j : ℕ) → j < id_count ids → entry_at new j ≡ cond (ltb j i && eqb (id_at ids j) id) entry (entry_at old j)

module _ (ids entry : List ℕ) (id from : ℕ) (old : List ℕ) (none : (j : ℕ) → j < from → id_at ids j ≡ id → ⊥) where
  pub putting-none : Putting ids entry id from from old old
  putting-none = record {
    forward = omega arith;
    kept = kept_same ids old;
    laid = λ j h. sym (by-test (ltb j from)
        (λ t. ap (λ x. cond (ltb j from && x) entry (entry_at old j)) (ne_eqb (id_at ids j) id (none j (ltb-true j from t)))
        ∙ ap (λ x. cond x entry (entry_at old j)) (and-false (ltb j from)))
        (λ t. ap (λ x. cond (x && eqb (id_at ids j) id) entry (entry_at old j)) t));
  }

module _ {ids entry : List ℕ} {id from i : ℕ} {old new : List ℕ} (p : Putting ids entry id from i old new) where
  module _ (room : Room ids old) (long : length entry ≡ 20) (less : i < id_count ids) (same : id_at ids i ≡ id) where
    inside : 20 * i + length entry ≤ length new
    inside = omega (arith, room.room, p.kept.size)

    at_i : entry_at (overlay new (20 * i) entry) i ≡ entry
    at_i =
        let e : i * 20 ≡ 20 * i = omega arith in
        ap₂ (λ a n. part_at (overlay new (20 * i) entry) a n) e (sym long) ∙ overlay-there new (20 * i) entry inside

    off-i : (j : ℕ) → (j ≡ i → ⊥) → entry_at (overlay new (20 * i) entry) j ≡ entry_at new j
    off-i j other =
        by-test (ltb j i)
        (λ t. overlay-before new (20 * i) entry (j * 20) 20 (omega (arith, ltb-true j i t)))
        (λ t. ap (take 20) (drop-overlay new (20 * i) entry (j * 20) (omega (arith, ltb-false j i t, other))))

    upto : (j : ℕ) → (j ≡ i → ⊥) → ltb j (i + 1) ≡ ltb j i
    upto j other =
        by-test (ltb j i)
        (λ t. lt-ltb j (i + 1) (omega (arith, ltb-true j i t)) ∙ sym t)
        (λ t. le-ltb j (i + 1) (omega (arith, ltb-false j i t, other)) ∙ sym t)

    pub putting-next : Putting ids entry id from (i + 1) old (overlay new (20 * i) entry)
    putting-next = record {
      forward = omega (arith, p.forward);
      kept = record {
        size = overlay-length new (20 * i) entry ∙ p.kept.size;
        rest = drop-overlay new (20 * i) entry (20 * id_count ids) (omega arith) ∙ p.kept.rest;
      };
      laid = λ j h. by-test (eqb j i)
          (λ t. let e = eqb-true j i t in
          ap (entry_at (overlay new (20 * i) entry)) e ∙ at_i
          ∙ sym (ap₂ (λ x y. cond (x && y) entry (entry_at old j)) (lt-ltb j (i + 1) (omega (arith, e))) (eq-eqb (id_at ids j) id (ap (id_at ids) e ∙ same))))
          (λ t. let other : j ≡ i → ⊥ = eqb-false j i t in
          off-i j other ∙ p.laid j h
          ∙ ap (λ x. cond (x && eqb (id_at ids j) id) entry (entry_at old j)) (sym (upto j other)));
    }

  -- once no id behind equals the sought one
  pub putting-all : ((j : ℕ) → i ≤ j → j < id_count ids → id_at ids j ≡ id → ⊥)
      → (f : ℕ → List ℕ) → Held ids old f → Held ids new (λ x. cond (eqb x id) entry (f x))
  putting-all none f h = record {
    each = λ j l. p.laid j l
        ∙ by-test (ltb j i)
        (λ t. ap (λ x. cond (x && eqb (id_at ids j) id) entry (entry_at old j)) t)
        (λ t. ap (λ x. cond (ltb j i && x) entry (entry_at old j)) (ne_eqb _ _ (none j (ltb-false j i t) l))
        ∙ ap (λ x. cond x entry (entry_at old j)) (and-false (ltb j i))
        ∙ ap (λ x. cond x entry (entry_at old j)) (sym (ne_eqb _ _ (none j (ltb-false j i t) l))))
        ∙ ap (cond (eqb (id_at ids j) id) entry) (h.each j l);
  }

-- ---- the entries after a record

module _ (ids out : List ℕ) (f : ℕ → List ℕ) (entry : List ℕ) (id : ℕ) (h : Held ids out f) where
  pub turned_none : ((j : ℕ) → j < id_count ids → id_at ids j ≡ id → ⊥) → Held ids out (λ x. turned entry id x (f x))
  unfolding turned
  turned_none none = record {
    each = λ j l. let x = id_at ids j in
        h.each j l ∙ sym (ap (λ t. cond (t && eqb (byte_at (f x) 0) 0) entry (f x)) (ne_eqb x id (none j l)));
  }

  module _ (p : ℕ) (less : p < id_count ids) (same : id_at ids p ≡ id) where
    flag : (x : ℕ) → eqb x id ≡ true → byte_at (f x) 0 ≡ byte_at out (20 * p)
    flag x t =
        let here : p * 20 + 0 ≡ 20 * p = omega arith in
        ap (λ y. byte_at (f y) 0) (eqb-true x id t ∙ sym same) ∙ ap (λ e. byte_at e 0) (sym (h.each p less))
        ∙ part_at-byte out (p * 20) 20 0 (omega arith) ∙ ap (byte_at out) here

    pub turned-found : 0 < byte_at out (20 * p) → Held ids out (λ x. turned entry id x (f x))
    unfolding turned
    turned-found found = record {
      each = λ j l. let x = id_at ids j in
          h.each j l
          ∙ sym (by-test (eqb x id)
          (λ t. ap (λ u. cond (eqb x id && u) entry (f x)) (ne_eqb (byte_at (f x) 0) 0 (λ e. omega (arith, flag x t)))
          ∙ ap (λ u. cond u entry (f x)) (and-false (eqb x id)))
          (λ t. ap (λ u. cond (u && eqb (byte_at (f x) 0) 0) entry (f x)) t));
    }

    pub turned-new : (new : List ℕ) → byte_at out (20 * p) ≤ 0 → Held ids new (λ x. cond (eqb x id) entry (f x))
        → Held ids new (λ x. turned entry id x (f x))
    unfolding turned
    turned-new new none put = record {
      each = λ j l. let x = id_at ids j in
          put.each j l
          ∙ by-test (eqb x id)
          (λ t. ap (λ u. cond u entry (f x)) t ∙ sym (ap₂ (λ u v. cond (u && v) entry (f x)) t (eq-eqb (byte_at (f x) 0) 0 (omega (arith, flag x t)))))
          (λ t. ap (λ u. cond u entry (f x)) t ∙ sym (ap (λ u. cond (u && eqb (byte_at (f x) 0) 0) entry (f x)) t));
    }
