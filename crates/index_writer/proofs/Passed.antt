-- What a list and settings that are not refused are known to be.
use mathlib.Core.Path.{◌≡◌, refl}
use mathlib.Core.Bool.{Bool, true, ◌&&◌, and-eq-true_iff}
use mathlib.Core.List.{List}
use Prim.Native.Nat.{ℕ, ◌+◌, ◌-◌, ◌*◌, ◌%◌, ◌≤◌, ◌<◌}
use native.Mathlib.Nat.{div-add-mod'}
use native.Mathlib.Omega.{arith}
use lib.ListN.{length}
use borrow.Author.Tests.{ltb-false, eqb-true, not-false}
use Rattle.numbers.specs.Number.{within}
use Rattle.key.specs.Order.{compared, is_below}
use Rattle.refusal.specs.Check.{silent}
use Rattle.refusal.specs.Output.{room_check}
use Rattle.refusal.specs.Number.{settings, list_length, entry_count, index_order, output_short}
use Rattle.refusal.proofs.Laws.{silent-test, first-left, first-right, from_each}
use Rattle.index_layout.specs.Layout as layout
use Rattle.index_layout.specs.Layout.{least_version, most_version, least_offset_width, most_offset_width}
use Rattle.index_layout.specs.Layout.{least_key_length, most_key_length, most_entries, count_check, full, index_length_of}
use Rattle.index_layout.proofs.Laws.{per-page, size_low}
use Rattle.numbers.proofs.Laws.{within-range}
use Rattle.index_writer.specs.declared.Settings.{Settings}
use Rattle.index_writer.specs.Write.{list_entry_size, list_count, layout_for, settings_right, settings_check}
use Rattle.index_writer.specs.Write.{whole_check, key_in_list, list_order_check, input_check, write_check}
use Rattle.index_file.specs.Held.{Held}

pub record Passed (s : Settings) (list : List ℕ) (room : ℕ) : Type 0 where
  pub version : s.version ≤ most_version
  pub offset-low : least_offset_width ≤ s.offset_width
  pub offset-high : s.offset_width ≤ most_offset_width
  pub key-low : least_key_length ≤ s.key_length
  pub key-high : s.key_length ≤ most_key_length
  pub bytes : length list ≡ list_count s list * list_entry_size s
  pub few : list_count s list ≤ most_entries
  pub rises : (i : ℕ) → 1 ≤ i → i < list_count s list → is_below (compared (key_in_list s list (i - 1)) (key_in_list s list i)) ≡ true
  pub fits : index_length_of (layout_for s list) ≤ room

pub right : (s : Settings) → settings_right s ≡ true
    → (s.version ≤ most_version)
    × (((least_offset_width ≤ s.offset_width) × (s.offset_width ≤ most_offset_width))
    × ((least_key_length ≤ s.key_length) × (s.key_length ≤ most_key_length)))
unfolding settings_right
right s e =
    let width : Bool = within s.offset_width least_offset_width most_offset_width in
    let key : Bool = within s.key_length least_key_length most_key_length in
    let all = (and-eq-true_iff (within s.version least_version most_version) (width && key)).0 e in
    let two = (and-eq-true_iff width key).0 all.1 in (
      (within-range least_version most_version s.version all.0).1,
      (within-range least_offset_width most_offset_width s.offset_width two.0, within-range least_key_length most_key_length s.key_length two.1),
    )

pub passed : (s : Settings) (list : List ℕ) (room : ℕ) → write_check s list room ≡ silent → Passed s list room
unfolding input_check write_check list_count list_order_check
passed s list room e =
    let e0 = first-left (input_check s list) (room_check (index_length_of (layout_for s list)) room) e in
    let e1 = first-right (settings_check s) _ e0 in
    let e2 = first-right (whole_check s list) _ e1 in
    let e3 = first-right (count_check (list_count s list)) _ e2 in
    let fields = right s (not-false _ (silent-test _ settings 0 (first-left (settings_check s) _ e0))) in
    let whole : length list % list_entry_size s ≡ 0 = eqb-true _ 0 (not-false _ (silent-test _ list_length 0 (first-left (whole_check s list) _ e1))) in
    record {
      version = fields.0;
      offset-low = fields.1.0.0;
      offset-high = fields.1.0.1;
      key-low = fields.1.1.0;
      key-high = fields.1.1.1;
      bytes = omega (arith, whole, div-add-mod' (length list) (list_entry_size s));
      few = ltb-false most_entries (list_count s list) (silent-test _ entry_count 0 (first-left (count_check (list_count s list)) _ e2));
      rises = λ i a b.
          let j : 1 + (i - 1) ≡ i = omega arith in
          not-false _ (silent-test _ index_order i (rw j at (from_each (list_order_check s list) 1 (list_count s list - 1) (e3) (i - 1) (omega arith))));
      fits = ltb-false room (index_length_of (layout_for s list)) (silent-test _ output_short 0
          (first-right (input_check s list) (room_check (index_length_of (layout_for s list)) room) e));
    }

pub held : (s : Settings) (list : List ℕ) (room : ℕ) → Passed s list room → Held list (layout_for s list)
unfolding layout_for layout.entry_size full list_entry_size list_count
held s list room p =
    let size : layout.entry_size (layout_for s list) ≤ 514 = omega (arith, p.key-high, p.offset-high) in
    record { bytes = p.bytes; paged = refl; holds = (per-page (layout.entry_size (layout_for s list)) (size_low (layout_for s list)) size).0 }
