-- Entries that are written are read back, and a list that a writer takes has such entries.
use mathlib.Core.Path.{◌≡◌, refl, sym, ap, ap₂, ◌∙◌}
use mathlib.Core.Bool.{true, not}
use mathlib.Core.List.{List, [], append-nil}
use Prim.Native.Nat.{ℕ, suc, ◌-◌, ◌*◌, ◌/◌, ◌%◌, ◌≤◌, ◌<◌}
use native.Mathlib.Nat.{zero-mul, suc-mul, add-zero, mul-div_cancel, mul-mod_left, mul-le-mul_right, le_refl}
use native.Mathlib.Omega.{arith}
use lib.ListN.{length, take}
use lib.Seq.{take_all}
use borrow.Author.Tests.{le-ltb, eq-eqb, not-false}
use Rattle.parts.specs.Part.{part_at}
use Rattle.parts.proofs.Laws.{part-of-part, part_at-inside}
use Rattle.parts.proofs.Parts.{parts-of}
use Rattle.key.specs.Order.{compared, is_below}
use Rattle.refusal.specs.Check.{silent}
use Rattle.refusal.specs.Number.{settings, list_length, entry_count, index_order}
use Rattle.refusal.proofs.Laws.{quiet, skip, from-silent, first-left, silent-test}
use Rattle.index_layout.specs.Layout.{most_entries, entry_size, index_length_of, layout_of}
use Rattle.index_layout.proofs.Laws.{size_low, key-within}
use Rattle.index_open.specs.Open.{opening}
use Rattle.index_open.proofs.Opened.{opened}
use Rattle.index.specs.Check.{full_check}
use Rattle.index_writer.specs.declared.Settings.{Settings}
use Rattle.index_writer.specs.Write.{layout_over, list_entry_size, list_count, layout_for, settings_right}
use Rattle.index_writer.specs.Write.{settings_check, key_in_list, list_order_check, input_check, write_check}
use Rattle.index_writer.proofs.Laws.{room-left}
use Rattle.index_writer.proofs.Passed.{Passed, passed}
use Rattle.index_round_trip.proofs.Back.{full-quiet, layout-back, list_back}
use Rattle.entry_list.specs.Entries.{Entry, entries_from, index_entries, list_entries, joined, sized, rises}
use Rattle.entry_list.proofs.Lists.{from-length, joined-from, joined_length, cut-joined, sized-from, rises-from, rising-at}
use Rattle.entry_list_laws.specs.Claims.{Writable, Reads, file_from, WrittenReadsBack, OfList, TakenIsWritable}
use Rattle.entry_list_laws.proofs.Checked.{entries-cut}

module _ (s : Settings) where
  abbrev size : ℕ
  size = list_entry_size s

  abbrev k : ℕ
  k = s.key_length

  size-some : 1 ≤ size
  unfolding list_entry_size
  size-some = omega (arith, size_low (layout_over s 0))

  -- the key of entry g of a list
  key_in : (list : List ℕ) (g : ℕ) → take k (part_at list (g * size) size) ≡ key_in_list s list g
  unfolding key_in_list list_entry_size
  key_in list g =
      part-of-part list (g * size) size 0 k (omega (arith, key-within (layout_over s 0))) ∙ ap (λ at. part_at list at k) (add-zero (g * size))

  -- ---- entries that are written

  module _ (es : List Entry) (w : Writable s es) where
    abbrev list : List ℕ
    list = joined es

    long : length list ≡ length es * size
    long = joined_length size es w.whole

    count : list_count s list ≡ length es
    unfolding list_count
    count = ap (λ n. n / size) long ∙ mul-div_cancel (length es) size-some

    again : list_entries size list ≡ es
    again = cut-joined size es size-some w.whole

    next-above : (g : ℕ) → 1 ≤ g → g < list_count s list → is_below (compared (key_in_list s list (g - 1)) (key_in_list s list g)) ≡ true
    unfolding list_entries list_count
    next-above g low high =
        let one : suc (g - 1) ≡ g = omega arith in
        let all : rises k (list_entries size list) ≡ true = ap (rises k) again ∙ w.rising in
        let next = rising-at k (λ i. part_at list (i * size) size) 0 (length list / size) all (g - 1) (omega arith) (omega arith) in
        ap is_below (sym (ap₂ compared (key_in list (g - 1)) (ap (λ i. take k (part_at list (i * size) size)) one ∙ key_in list g))) ∙ next

    taken : input_check s list ≡ silent
    unfolding input_check list_order_check
    taken =
        skip (quiet settings 0 refl (ap not w.right))
        (skip (quiet list_length 0 refl (ap not (eq-eqb _ 0 (ap (λ n. n % size) long ∙ mul-mod_left (length es) size))))
        (skip (quiet entry_count 0 refl (le-ltb most_entries (list_count s list) (omega (arith, count, w.few))))
        (from-silent (list_order_check s list) 1 (list_count s list - 1)
        (λ g a b. quiet index_order g refl (ap not (next-above g a (omega arith)))))))

    room : write_check s list (index_length_of (layout_for s list)) ≡ silent
    room = room-left s list (index_length_of (layout_for s list)) taken (le_refl _)

    passes : full_check (file_from s es) ≡ silent
    passes = full-quiet s list _ room

    layout : layout_of (file_from s es) ≡ layout_for s list
    layout = layout-back s list _ room

    same_size : entry_size (layout_of (file_from s es)) ≡ size
    unfolding layout_for entry_size list_entry_size
    same_size = ap entry_size layout

    entries : index_entries (file_from s es) ≡ es
    unfolding full_check
    entries =
        sym (entries-cut (file_from s es) (opened (file_from s es) (first-left (opening (file_from s es)) _ passes)))
        ∙ ap₂ list_entries same_size (list_back s list _ room) ∙ again

    reads : Reads s es
    reads = record { taken = taken; passes = passes; layout = layout; entries = entries }

  -- ---- a list that a writer takes

  module _ (list : List ℕ) (quiet-input : input_check s list ≡ silent) where
    abbrev room_for : ℕ
    room_for = index_length_of (layout_for s list)

    given : Passed s list room_for
    given = passed s list room_for (room-left s list room_for quiet-input (le_refl _))

    abbrev entry : ℕ → Entry
    entry g = part_at list (g * size) size

    entry_whole : (g : ℕ) → g < list_count s list → length (entry g) ≡ size
    entry_whole g h = part_at-inside list (g * size) size (omega (arith, given.bytes, mul-le-mul_right size h, suc-mul g size))

    settings-right : settings_right s ≡ true
    unfolding input_check
    settings-right = not-false _ (silent-test _ settings 0 (first-left (settings_check s) _ quiet-input))

    all_whole : sized size (list_entries size list) ≡ true
    unfolding list_entries list_count sized
    all_whole =
        ap (sized size) (sym (append-nil (entries_from entry 0 (length list / size))))
        ∙ sized-from size entry [] 0 (length list / size) (λ g a b. entry_whole g (omega arith)) refl

    all-rise : rises k (list_entries size list) ≡ true
    unfolding list_entries list_count
    all-rise =
        rises-from k entry (length list / size)
        (λ g h.
        let one : suc g - 1 ≡ g = omega arith in
        ap is_below (ap₂ compared (key_in list g ∙ ap (key_in_list s list) (sym one)) (key_in list (suc g))) ∙ given.rises (suc g) (omega arith) h)

    few : length (list_entries size list) ≤ most_entries
    unfolding list_entries list_count
    few = omega (arith, from-length entry 0 (length list / size), given.few)

    same : joined (list_entries size list) ≡ list
    unfolding list_entries list_count
    same =
        joined-from entry 0 (length list / size)
        ∙ parts-of list size 0 (length list / size)
        ∙ ap (λ at. part_at list at (length list / size * size)) (zero-mul size)
        ∙ take_all (length list / size * size) list (omega (arith, given.bytes))

    of-list : OfList s list
    of-list = record { writable = record { right = settings-right; whole = all_whole; few = few; rising = all-rise }; same = same }

pub written-reads-back : WrittenReadsBack
written-reads-back = reads

pub taken-is-writable : TakenIsWritable
taken-is-writable = of-list
