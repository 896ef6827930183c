-- The cursor over the entries of an archive index s under a layout l: rule I32.
use Rattle.std.specs.Prelude.{◌≡◌, Bool, ◌&&◌, cond, List, [], ◌∷◌, ◌++◌, ℕ, suc, ◌+◌, ◌-◌, ◌≤◌, ◌<◌, min, ltb, length}
use Rattle.index_layout.specs.declared.Layout.{Layout}
use Rattle.index_layout.specs.Layout.{on_page, entry_at}
use Rattle.index_entry.specs.Entry.{stored_entry}
use Rattle.entry_list.specs.declared.Cursor.{Cursor}
use Rattle.entry_list.specs.Entries.{Entry, entries_from, pages_from, entries_under}

abbrev pub cursor_at : (page slot : ℕ) → Cursor
cursor_at p i = record { page = record { 0 = p }; slot = record { 0 = i } }

-- Where the first entry stands.
abbrev pub first_place : Cursor
first_place = cursor_at 0 0

-- Whether the index has this slot of this page (rule I7).
abbrev pub stands : Layout → Cursor → Bool
stands l c = ltb c.page.0 l.pages && ltb c.slot.0 (on_page l c.page.0)

-- The bytes of the entry at a cursor, and where they stand; none, at the start of the file, where no entry stands there.
abbrev pub entry_here : List ℕ → Layout → Cursor → Entry
entry_here s l c = cond (stands l c) (stored_entry s l c.page.0 c.slot.0) []

abbrev pub place_here : List ℕ → Layout → Cursor → ℕ
place_here s l c = cond (stands l c) (min (entry_at l c.page.0 c.slot.0) (length s)) 0

-- The next slot, or slot 0 of the next page after a page's last entry; the same place where no entry stands.
abbrev pub next_place : Layout → Cursor → Cursor
next_place l c =
    cond (stands l c)
    (cond (ltb (c.slot.0 + 1) (on_page l c.page.0)) (cursor_at c.page.0 (c.slot.0 + 1)) (cursor_at (c.page.0 + 1) 0))
    c

-- The entries from a cursor on.
unfoldable pub entries_at : List ℕ → Layout → Cursor → List Entry
entries_at s l c =
    cond (stands l c)
    (entries_from (stored_entry s l c.page.0) c.slot.0 (on_page l c.page.0 - c.slot.0)
    ++ pages_from s l (suc c.page.0) (l.pages - suc c.page.0))
    []

-- The first of some entries, no bytes where there is none, and those after it.
unfoldable pub head : List Entry → Entry
head [] = []
head (e ∷ rest) = e

unfoldable pub tail : List Entry → List Entry
tail [] = []
tail (e ∷ rest) = rest

-- What holds of the cursor where every page has an entry, as in every index that opens: from the first place on stand all
-- entries, and a step passes over one.
pub record Walks (s : List ℕ) (l : Layout) : Type 0 where
  pub all : entries_at s l first_place ≡ entries_under s l
  pub this : (c : Cursor) → entry_here s l c ≡ head (entries_at s l c)
  pub rest : (c : Cursor) → entries_at s l (next_place l c) ≡ tail (entries_at s l c)

abbrev pub CursorWalks : Type 0
CursorWalks = (s : List ℕ) (l : Layout) → ((p : ℕ) → p < l.pages → 1 ≤ on_page l p) → Walks s l
