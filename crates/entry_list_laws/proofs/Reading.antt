-- The plain reading ends at the first entry of the list whose key is the sought one.
use mathlib.Core.Path.{◌≡◌, refl, sym, ap, ◌∙◌}
use mathlib.Core.Bool.{Bool, true, false, cond}
use mathlib.Core.List.{List, ◌++◌}
use Prim.Native.Nat.{ℕ, zero, suc}
use native.Mathlib.Nat.{add-zero}
use native.Mathlib.Omega.{arith}
use lib.ListN.{take}
use Rattle.parts.specs.Part.{part_at, same_bytes}
use Rattle.parts.proofs.Laws.{part-of-part}
use Rattle.key.specs.Order.{compared, is_equal}
use Rattle.key.proofs.Laws.{equal-is-same}
use Rattle.index_layout.specs.declared.Layout.{Layout}
use Rattle.index_layout.specs.Layout.{entry_size, on_page, entry_at, layout_of, key_at}
use Rattle.index_layout.specs.Entries.{size_at, location_at}
use Rattle.index_layout.proofs.Laws.{key-within}
use Rattle.index_entry.specs.Entry.{stored_entry}
use Rattle.index_agreement.specs.Plain as plain
use Rattle.index_agreement.specs.Plain.{Plain, found, absent, plain_reading}
use Rattle.entry_list.specs.Entries.{Entry, entries_from, pages_from, Sought, here, first_with}
use Rattle.entry_list_laws.specs.Claims.{entry_read, PlainReadingIsFirst}

-- the key of a stored entry
pub entry_key : (s : List ℕ) (l : Layout) (p i : ℕ) → take l.key_length (stored_entry s l p i) ≡ key_at s l p i
entry_key s l p i =
    part-of-part s (entry_at l p i) (entry_size l) 0 l.key_length (omega (arith, key-within l))
    ∙ ap (λ at. part_at s at l.key_length) (add-zero (entry_at l p i))

module _ (s : List ℕ) (l : Layout) (key : List ℕ) where
  abbrev k : ℕ
  k = l.key_length

  same_test : (p i : ℕ) → is_equal (compared (take k (stored_entry s l p i)) key) ≡ same_bytes (key_at s l p i) key
  same_test p i = ap (λ a. is_equal (compared a key)) (entry_key s l p i) ∙ equal-is-same (key_at s l p i) key

  read_one : (b : Bool) (p i size location : ℕ) (after : Plain) (rest : Sought) → entry_read s l after ≡ rest
      → entry_read s l (cond b (found p i size location) after) ≡ cond b (here (stored_entry s l p i)) rest
  unfolding entry_read
  read_one true p i size location after rest e = refl
  read_one false p i size location after rest e = e

  read-entries : (p i n : ℕ) (after : Plain) (rest : List Entry) → entry_read s l after ≡ first_with k key rest
      → entry_read s l (plain.entries_from s l key p i n after) ≡ first_with k key (entries_from (stored_entry s l p) i n ++ rest)
  unfolding plain.entries_from entries_from first_with
  read-entries p i zero after rest e = e
  read-entries p i (suc n) after rest e =
      read_one (same_bytes (key_at s l p i) key) p i (size_at s l p i) (location_at s l p i) _ _ (read-entries p (suc i) n after rest e)
      ∙ ap (λ b. cond b (here (stored_entry s l p i)) (first_with k key (entries_from (stored_entry s l p) (suc i) n ++ rest))) (sym (same_test p i))

  read-pages : (p n : ℕ) → entry_read s l (plain.pages_from s l key p n) ≡ first_with k key (pages_from s l p n)
  unfolding plain.pages_from pages_from first_with entry_read
  read-pages p zero = refl
  read-pages p (suc n) = read-entries p 0 (on_page l p) (plain.pages_from s l key (suc p) n) (pages_from s l (suc p) n) (read-pages (suc p) n)

pub plain-reading-is-first : PlainReadingIsFirst
unfolding plain_reading
plain-reading-is-first s key = read-pages s (layout_of s) key 0 (layout_of s).pages
