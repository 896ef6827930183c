-- The order of the refusals, and the entries as the bytes of the definition.
use mathlib.Core.Path.{◌≡◌, refl, sym, ap, ap₂, ◌∙◌}
use mathlib.Core.List.{List, ◌++◌}
use Prim.Native.Nat.{ℕ, ◌*◌, ◌/◌, ◌≤◌, ◌<◌}
use native.Mathlib.Omega.{arith}
use lib.ListN.{length, take, drop, length-take, take-append-drop}
use borrow.Author.Tests.{lt-ltb, le-ltb, ltb-false}
use Rattle.parts.proofs.Parts.{parts_same, parts-of}
use Rattle.refusal.specs.Check.{silent, refused}
use Rattle.refusal.specs.Number.{output_short}
use Rattle.refusal.proofs.Laws.{said, quiet, first_said, skip, after-quiet, first-left, first-right, silent-test}
use Rattle.id_list.specs.Ids.{id_count, id_at, ids_check}
use Rattle.root_layout.specs.declared.Layout.{Layout}
use Rattle.root_layout.specs.Header.{layout_of}
use Rattle.root.specs.Root.{root_check}
use Rattle.root.specs.Lookup.{records_by, wanted, found_among, lookup_of}
use Rattle.root_find_many.specs.Many.{entry_for, many_bytes, many_check}
use Rattle.root_find_many.specs.Entries.{entry_at, Room, Held, Kept, entry_by}

module _ (s ids : List ℕ) (room : ℕ) where
  pub root-refused : {number place : ℕ} → root_check s ≡ refused number place → many_check s ids room ≡ refused number place
  unfolding many_check
  root-refused e = first_said _ e

  module _ (e : root_check s ≡ silent) where
    pub ids-refused : {number place : ℕ} → ids_check ids ≡ refused number place → many_check s ids room ≡ refused number place
    unfolding many_check
    ids-refused g = skip e (first_said _ g)

    module _ (g : ids_check ids ≡ silent) where
      pub room-refused : room / 20 < id_count ids → many_check s ids room ≡ refused output_short 0
      unfolding many_check
      room-refused h = skip e (skip g (said refl (lt-ltb room (20 * id_count ids) (omega arith))))

      pub all-passed : id_count ids ≤ room / 20 → many_check s ids room ≡ silent
      unfolding many_check
      all-passed h = skip e (skip g (quiet output_short 0 refl (le-ltb room (20 * id_count ids) (omega arith))))

-- what a silent check says
module _ (s ids : List ℕ) (room : ℕ) (e : many_check s ids room ≡ silent) where
  pub root_passes : root_check s ≡ silent
  unfolding many_check
  root_passes = first-left _ _ e

  pub ids-pass : ids_check ids ≡ silent
  unfolding many_check
  ids-pass = first-left _ _ (first-right _ _ e)

  pub room-there : 20 * id_count ids ≤ room
  unfolding many_check
  room-there = ltb-false _ _ (silent-test _ _ _ (first-right _ _ (first-right _ _ e)))

-- what the entries after all records are
module _ (s ids old new : List ℕ) (l : Layout) (locale unwanted : ℕ) (e : root_check s ≡ silent) (g : l ≡ layout_of s)
    (room : Room ids old) (kept : Kept ids old new) (held : Held ids new (entry_by s locale unwanted (records_by s l))) where
  entry_of : ℕ → List ℕ
  entry_of i = entry_for s (lookup_of s (id_at ids i) locale unwanted)

  each : (j : ℕ) → j < id_count ids → entry_at new j ≡ entry_of j
  unfolding entry_by lookup_of entry_of
  each j h =
      let want = wanted (id_at ids j) locale unwanted in
      held.each j h ∙ ap (entry_for s) (ap (λ m. found_among want (records_by s m)) g ∙ sym (after-quiet _ e))

  front : many_bytes s ids locale unwanted ≡ take (20 * id_count ids) new
  unfolding many_bytes entry_of
  front =
      let turn : id_count ids * 20 ≡ 20 * id_count ids = omega arith in
      parts_same entry_of (entry_at new) 0 (id_count ids) (λ j a b. sym (each j (omega arith)))
      ∙ parts-of new 20 0 (id_count ids) ∙ ap (λ n. take n new) turn

  long : length (many_bytes s ids locale unwanted) ≡ 20 * id_count ids
  long = ap length front ∙ length-take (20 * id_count ids) new ∙ omega (arith, room.room, kept.size)

  pub all-filled : new ≡ many_bytes s ids locale unwanted ++ drop (length (many_bytes s ids locale unwanted)) old
  all-filled =
      sym (take-append-drop (20 * id_count ids) new)
      ∙ ap₂ ◌++◌ (sym front) (kept.rest ∙ ap (λ n. drop n old) (sym long))
