-- Writing an index, by 11, 12, 4, 8, 13, then the file: rules I15 and I20 to I22.
use Rattle.std.specs.Prelude.{Bool, not, ◌&&◌, List, [], ◌∷◌, ℕ, ◌-◌, ◌*◌, ◌/◌, ◌%◌, eqb, length}
use Rattle.parts.specs.Part.{part_at}
use Rattle.numbers.specs.Number.{within}
use Rattle.key.specs.Order.{compared, is_below}
use Rattle.refusal.specs.Check.{Check, refused_if, first, first_from}
use Rattle.refusal.specs.Outcome.{Outcome, answered, after}
use Rattle.refusal.specs.Number.{settings, list_length, index_order}
use Rattle.refusal.specs.Output.{room_check}
use Rattle.index_layout.specs.declared.Layout.{Layout}
use Rattle.index_layout.specs.Layout.{least_version, most_version, least_offset_width, most_offset_width, least_key_length}
use Rattle.index_layout.specs.Layout.{most_key_length, count_check, entry_size, index_length_of, layout_with}
use Rattle.index_writer.specs.declared.Settings.{Settings}

-- The layout of an index with these settings and n entries.
abbrev pub layout_over : Settings → ℕ → Layout
layout_over s n = layout_with s.version s.offset_width s.key_length n

-- The bytes of an entry, however many there are.
unfoldable pub list_entry_size : Settings → ℕ
list_entry_size s = entry_size (layout_over s 0)

-- How many entries a list has (rule I20).
unfoldable pub list_count : Settings → List ℕ → ℕ
list_count s list = length list / list_entry_size s

-- The layout of the file.
unfoldable pub layout_for : Settings → List ℕ → Layout
layout_for s list = layout_over s (list_count s list)

-- 11: version is not 0 or 1, W not 4, 5 or 6, or K not 1 to 16 (rule I21).
unfoldable pub settings_right : Settings → Bool
settings_right s =
    within s.version least_version most_version
    && (within s.offset_width least_offset_width most_offset_width && within s.key_length least_key_length most_key_length)

abbrev pub settings_check : Settings → Check
settings_check s = refused_if (not (settings_right s)) settings 0

-- 12: the list is not of whole entries (rule I21).
abbrev pub whole_check : Settings → List ℕ → Check
whole_check s list = refused_if (not (eqb (length list % list_entry_size s) 0)) list_length 0

-- 8: a key not above the one before (rule I21). The first has none before it.
unfoldable pub key_in_list : Settings → List ℕ → ℕ → List ℕ
key_in_list s list i = part_at list (i * list_entry_size s) s.key_length

unfoldable pub list_order_check : Settings → List ℕ → ℕ → Check
list_order_check s list i = refused_if (not (is_below (compared (key_in_list s list (i - 1)) (key_in_list s list i)))) index_order i

abbrev pub rising_check : Settings → List ℕ → Check
rising_check s list = first_from (list_order_check s list) 1 (list_count s list - 1)

-- 11, 12, 4 and 8, in this order: what settings and list are refused for (rule I21).
unfoldable pub input_check : Settings → List ℕ → Check
input_check s list =
    first (settings_check s) (first (whole_check s list) (first (count_check (list_count s list)) (rising_check s list)))

-- Then 13 (rule I21).
unfoldable pub write_check : Settings → List ℕ → ℕ → Check
write_check s list room = first (input_check s list) (room_check (index_length_of (layout_for s list)) room)

abbrev pub write_outcome : Settings → List ℕ → ℕ → Outcome
write_outcome s list room = after (write_check s list room) (answered (index_length_of (layout_for s list) ∷ []))

-- The length of the file that a list gives, whatever the output (rule I26).
abbrev pub length_outcome : Settings → List ℕ → Outcome
length_outcome s list = after (input_check s list) (answered (index_length_of (layout_for s list) ∷ []))
