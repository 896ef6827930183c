-- Laws of the writer's refusals, in their order.
use mathlib.Core.Path.{◌≡◌, refl, sym, ap, ◌∙◌}
use mathlib.Core.Bool.{true, not}
use mathlib.Core.List.{List}
use Prim.Native.Nat.{ℕ, ◌+◌, ◌-◌, ◌%◌, ◌≤◌, ◌<◌}
use native.Mathlib.Omega.{arith}
use lib.Dec.{ltb}
use lib.ListN.{length}
use borrow.Author.Tests.{lt-ltb, le-ltb, eq-eqb}
use Rattle.refusal.specs.Check.{Check, silent, refused, refused_if, first}
use Rattle.refusal.specs.Number.{settings, list_length, entry_count, index_order, output_short}
use Rattle.refusal.proofs.Laws.{said, quiet, skip}
use Rattle.rising.specs.Fall.{rises_at, fall_from}
use Rattle.rising.proofs.Laws.{fall-check, fall-low}
use Rattle.index_layout.specs.Layout.{most_entries, count_check, index_length_of}
use Rattle.index_writer.specs.declared.Settings.{Settings}
use Rattle.index_writer.specs.Write.{list_entry_size, list_count, layout_for, settings_right, settings_check}
use Rattle.index_writer.specs.Write.{whole_check, key_in_list, list_order_check, rising_check, input_check, write_check}

-- whole entries, few enough, and the first key that is not above the one before it
module _ (s : Settings) (list : List ℕ) where
  module _ (right : settings_right s ≡ true) where
    module _ (whole : length list % list_entry_size s ≡ 0) where
      module _ (few : list_count s list ≤ most_entries) (fall : ℕ) (f : fall ≡ fall_from list (list_entry_size s) s.key_length 1 (list_count s list - 1)) where
        rising-told : rising_check s list ≡ refused_if (ltb fall (1 + (list_count s list - 1))) index_order fall
        unfolding list_order_check key_in_list rises_at
        rising-told =
            fall-check list (list_entry_size s) s.key_length (list_order_check s list) index_order (λ i. i) 1 (list_count s list - 1) (λ j a b. refl)
            ∙ ap (λ n. refused_if (ltb n (1 + (list_count s list - 1))) index_order n) (sym f)

        three : (later : Check) {r : Check} → later ≡ r → first (settings_check s) (first (whole_check s list) (first (count_check (list_count s list)) later)) ≡ r
        three later e =
            skip (quiet settings 0 refl (ap not right)) (skip (quiet list_length 0 refl (ap not (eq-eqb _ 0 whole)))
            (skip (quiet entry_count 0 refl (le-ltb most_entries (list_count s list) few)) e))

        pub judged-8 : fall < list_count s list → input_check s list ≡ refused index_order fall
        unfolding input_check
        judged-8 h = three _ (said rising-told (lt-ltb fall (1 + (list_count s list - 1)) (omega arith)))

        module _ (rises : list_count s list ≤ fall) where
          rising-quiet : rising_check s list ≡ silent
          rising-quiet =
              let low = fall-low list (list_entry_size s) s.key_length 1 (list_count s list - 1) in
              quiet index_order fall rising-told (le-ltb fall (1 + (list_count s list - 1)) (omega (arith, low, f)))

          pub judged-none : input_check s list ≡ silent
          unfolding input_check
          judged-none = three _ rising-quiet

  -- then the room
  module _ (room : ℕ) (right : input_check s list ≡ silent) where
    pub no_room : room < index_length_of (layout_for s list) → write_check s list room ≡ refused output_short 0
    unfolding write_check
    no_room h = skip right (said refl (lt-ltb room (index_length_of (layout_for s list)) h))

    pub room-left : index_length_of (layout_for s list) ≤ room → write_check s list room ≡ silent
    unfolding write_check
    room-left h = skip right (quiet output_short 0 refl (le-ltb room (index_length_of (layout_for s list)) h))
