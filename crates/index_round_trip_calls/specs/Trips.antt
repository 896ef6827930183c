-- Demand 2 of the calls one after the other: rules I23 and I24.
use Rattle.std.specs.Prelude.{List, [], ◌∷◌, ℕ, length}
use Rattle.refusal.specs.Check.{Check, first}
use Rattle.refusal.specs.Outcome.{Outcome, answered, after}
use Rattle.refusal.specs.Output.{room_check, filled}
use Rattle.index_layout.specs.Entries.{list_of}
use Rattle.index_open.specs.Open.{layout_values}
use Rattle.index_list.specs.List.{list_check}
use Rattle.index_file.specs.File.{file_of}
use Rattle.index_writer.specs.declared.Settings.{Settings}
use Rattle.index_writer.specs.Write.{write_check, layout_for}
use Rattle.index_round_trip.specs.Same.{contents_hash_of, with_contents_hash}

-- An index is listed by the full check, then 13; written again it is refused for want of room alone (rule I23).
unfoldable pub again_check : List ℕ → (room_for_list room_for_file : ℕ) → Check
again_check index room_for_list room_for_file = first (list_check index room_for_list) (room_check (length index) room_for_file)

-- What writing again tells: the file has as many bytes as the index.
unfoldable pub again_outcome : List ℕ → (room_for_list room_for_file : ℕ) → Outcome
again_outcome index room_for_list room_for_file = after (again_check index room_for_list room_for_file) (answered (length index ∷ []))

-- What the two outputs hold at exit: the list, and the index but for its contents hash.
abbrev pub left_by_list : (index lent : List ℕ) → List ℕ
left_by_list index lent = filled (list_check index (length lent)) (list_of index) lent

abbrev pub file_again : List ℕ → (room_for_list : ℕ) → List ℕ → List ℕ
file_again index room_for_list lent =
    filled (again_check index room_for_list (length lent)) (with_contents_hash index (contents_hash_of index)) lent

-- A list that is written is read back; only room for it may be wanting (rule I24).
unfoldable pub back_check : Settings → List ℕ → (room_for_file room_for_list : ℕ) → Check
back_check settings list room_for_file room_for_list = first (write_check settings list room_for_file) (room_check (length list) room_for_list)

-- What the full check of the written index tells: the settings, the number of entries and of pages.
unfoldable pub back_outcome : Settings → List ℕ → (room_for_file room_for_list : ℕ) → Outcome
back_outcome settings list room_for_file room_for_list =
    after (back_check settings list room_for_file room_for_list) (answered (layout_values (layout_for settings list)))

-- What the two outputs hold at exit: the written file, and the list that it was written from.
abbrev pub file_left : Settings → (list lent : List ℕ) → List ℕ
file_left settings list lent = filled (write_check settings list (length lent)) (file_of list (layout_for settings list)) lent

abbrev pub list_read_back : Settings → List ℕ → (room_for_file : ℕ) → List ℕ → List ℕ
list_read_back settings list room_for_file lent = filled (back_check settings list room_for_file (length lent)) list lent
