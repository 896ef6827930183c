-- What writing again and reading back tell, from what each call tells.
use mathlib.Core.Path.{◌≡◌, refl, sym, ap, ap₂, ◌∙◌}
use mathlib.Core.List.{List, [], ◌∷◌}
use Prim.Native.Nat.{ℕ, ◌<◌}
use native.Mathlib.Omega.{arith}
use lib.ListN.{length, take, drop}
use lib.Seq.{take_at}
use Rattle.parts.specs.Part.{byte_at, part_at}
use Rattle.refusal.specs.Check.{Check, silent, refused}
use Rattle.refusal.specs.Outcome.{answered, refusal, after}
use Rattle.refusal.specs.Output.{room_check, filled}
use Rattle.refusal.proofs.Laws.{first-left, first_said, skip, after-said, after-quiet}
use Rattle.index_layout.specs.declared.Layout.{Layout}
use Rattle.index_layout.specs.Layout.{index_length_of, layout_of}
use Rattle.index_layout.specs.Entries.{list_of}
use Rattle.index_open.specs.Open.{opening, layout_values}
use Rattle.index_open.proofs.Opened.{opened}
use Rattle.index.specs.Check.{full_check, pages_check, check_outcome}
use Rattle.index_list.specs.List.{list_check, list_outcome}
use Rattle.index_file.specs.File.{file_of}
use Rattle.index_file.proofs.Parts.{file-length}
use Rattle.index_writer.specs.declared.Settings.{Settings}
use Rattle.index_writer.specs.Write.{layout_for, write_check, write_outcome}
use Rattle.index_writer.proofs.Passed.{passed, held}
use Rattle.index_round_trip.specs.Same.{settings_of, contents_hash_of, with_contents_hash}
use Rattle.index_round_trip.proofs.Back.{layout-back, full-quiet, list_back}
use Rattle.index_round_trip.proofs.Again.{file-again, layout-again, write-silent}
use Rattle.index_round_trip_calls.specs.Trips.{again_check, again_outcome, back_check, back_outcome}

-- output after a refusal, and output that was filled
pub kept : {k : Check} {n p : ℕ} (answer output : List ℕ) → k ≡ refused n p → output ≡ filled k answer output
unfolding filled
kept answer output e = sym (ap (λ k. filled k answer output) e)

filled-read : {k : Check} (answer output left : List ℕ) (n : ℕ) → k ≡ silent → left ≡ filled k answer output → n ≡ length answer
    → part_at left 0 n ≡ answer
unfolding filled
filled-read answer output left n e h size =
    ap (take n) (h ∙ ap (λ k. filled k answer output) e) ∙ take_at answer (drop (length answer) output) n (sym size)

-- ---- a checked index, listed and written again

-- a refusal of the list is that of writing again
module _ (s : List ℕ) (room_for_list room_for_file n p : ℕ) (e : list_check s room_for_list ≡ refused n p) where
  pub again-refused : again_check s room_for_list room_for_file ≡ refused n p
  unfolding again_check
  again-refused = first_said _ e

  pub again-told : refusal n p ≡ again_outcome s room_for_list room_for_file
  unfolding again_outcome
  again-told = sym (after-said _ again-refused)

pub list-refused : (s : List ℕ) (room_for_list n p : ℕ) → full_check s ≡ refused n p → list_check s room_for_list ≡ refused n p
unfolding list_check
list-refused s room_for_list n p e = first_said _ e

module _ (s : List ℕ) (bytes : (i : ℕ) → byte_at s i < 256) (e : full_check s ≡ silent) where
  whole : index_length_of (layout_for (settings_of (layout_of s)) (list_of s)) ≡ length s
  unfolding full_check
  whole = ap index_length_of (layout-again s bytes e) ∙ sym (opened s (first-left (opening s) (pages_check s (layout_of s)) e)).whole

  -- writing its list is refused for want of room alone
  room-alone : (room : ℕ) → write_check (settings_of (layout_of s)) (list_of s) room ≡ room_check (length s) room
  unfolding write_check
  room-alone room =
      skip (first-left _ _ (write-silent s bytes e (length s) (omega arith))) (ap (λ n. room_check n room) whole)

  module _ (lent left : List ℕ) (n room : ℕ) (l : Layout) (t : Settings) (given : List ℕ)
      (listed : list_check s (length lent) ≡ silent) (leaves : left ≡ filled (list_check s (length lent)) (list_of s) lent)
      (told : n ≡ length (list_of s)) (layout : l ≡ layout_of s) (settings : t ≡ settings_of l) (part : given ≡ part_at left 0 n) where
    abbrev rewritten : List ℕ
    rewritten = with_contents_hash s (contents_hash_of s)

    same-settings : t ≡ settings_of (layout_of s)
    same-settings = settings ∙ ap settings_of layout

    same-list : given ≡ list_of s
    same-list = part ∙ filled-read (list_of s) lent left n listed leaves told

    same_check : write_check t given room ≡ again_check s (length lent) room
    unfolding again_check
    same_check = ap₂ (λ u r. write_check u r room) same-settings same-list ∙ room-alone room ∙ sym (skip listed refl)

    again-answer : write_outcome t given room ≡ again_outcome s (length lent) room
    unfolding again_outcome
    again-answer =
        ap₂ (λ k n. after k (answered (n ∷ []))) same_check (ap₂ (λ u r. index_length_of (layout_for u r)) same-settings same-list ∙ whole)

    again-file : (output : List ℕ)
        → filled (write_check t given room) (file_of given (layout_for t given)) output ≡ filled (again_check s (length lent) room) rewritten output
    again-file output =
        ap₂ (λ k f. filled k f output) same_check
        (ap₂ (λ u r. file_of r (layout_for u r)) same-settings same-list ∙ ap (file_of (list_of s)) (layout-again s bytes e) ∙ file-again s bytes e)

    -- what the writer answers and leaves is what is promised of writing again
    pub settled : (write_outcome t given room ≡ again_outcome s (length lent) room)
        × ((output : List ℕ)
        → filled (write_check t given room) (file_of given (layout_for t given)) output ≡ filled (again_check s (length lent) room) rewritten output)
    settled = (again-answer, again-file)

-- ---- a written index, read back

module _ (t : Settings) (list : List ℕ) (room again : ℕ) where
  module _ (n p : ℕ) (e : write_check t list room ≡ refused n p) where
    pub back-refused : back_check t list room again ≡ refused n p
    unfolding back_check
    back-refused = first_said _ e

  pub back-told : {n p : ℕ} → back_check t list room again ≡ refused n p → refusal n p ≡ back_outcome t list room again
  unfolding back_outcome
  back-told e = sym (after-said _ e)

  module _ (e : write_check t list room ≡ silent) where
    abbrev file : List ℕ
    file = file_of list (layout_for t list)

    -- the bytes that the writer tells are the file
    pub file-read : (output left : List ℕ) (n : ℕ) → left ≡ filled (write_check t list room) file output → n ≡ index_length_of (layout_for t list)
        → part_at left 0 n ≡ file
    file-read output left n h told =
        filled-read file output left n e h (told ∙ sym (file-length list (layout_for t list) (held t list room (passed t list room e))))

    -- listing it is refused for want of room alone
    pub list_room : list_check file again ≡ back_check t list room again
    unfolding list_check back_check
    list_room =
        skip (full-quiet t list room e) (ap (λ r. room_check (length r) again) (list_back t list room e)) ∙ sym (skip e refl)

    pub list-answer : list_outcome file again ≡ after (back_check t list room again) (answered (length list ∷ []))
    list-answer = ap₂ (λ k r. after k (answered (length r ∷ []))) list_room (list_back t list room e)

    pub list_left : (output : List ℕ) → filled (list_check file again) (list_of file) output ≡ filled (back_check t list room again) list output
    list_left output = ap₂ (λ k r. filled k r output) list_room (list_back t list room e)

    pub check-answer : back_check t list room again ≡ silent → check_outcome file ≡ back_outcome t list room again
    unfolding back_outcome
    check-answer quiet =
        after-quiet _ (full-quiet t list room e) ∙ ap (λ l. answered (layout_values l)) (layout-back t list room e) ∙ sym (after-quiet _ quiet)
