-- Laws of a place among the entries: where an entry stands, and what comes after it.
use mathlib.Core.Path.{◌≡◌}
use mathlib.Core.Bool.{true, false}
use mathlib.Core.List.{List, []}
use Prim.Native.Nat.{ℕ, ◌+◌, ◌≤◌, ◌<◌, min}
use lib.ListN.{length}
use borrow.Author.Tests.{ltb-true, lt-ltb, le-ltb}
use Rattle.parts.proofs.Laws.{both}
use Rattle.index_layout.specs.declared.Layout.{Layout}
use Rattle.index_layout.specs.Layout.{on_page, entry_at}
use Rattle.index_entry.specs.Entry.{stored_entry}
use Rattle.entry_list.specs.declared.Cursor.{Cursor}
use Rattle.entry_list.specs.Cursor.{cursor_at, stands, entry_here, place_here, next_place}

module _ (l : Layout) (c : Cursor) where
  pub stands_here : c.page.0 < l.pages → c.slot.0 < on_page l c.page.0 → stands l c ≡ true
  stands_here h k = rw (lt-ltb _ _ h, lt-ltb _ _ k)

  pub stands-past : l.pages ≤ c.page.0 → stands l c ≡ false
  stands-past h = rw (le-ltb _ _ h)

  pub standing : stands l c ≡ true → (c.page.0 < l.pages) × (c.slot.0 < on_page l c.page.0)
  standing t =
      let two = both _ _ t in
      (ltb-true _ _ two.0, ltb-true _ _ two.1)

  -- the place after this one
  pub next-none : stands l c ≡ false → next_place l c ≡ c
  next-none t = rw t

  pub next-slot : stands l c ≡ true → c.slot.0 + 1 < on_page l c.page.0 → next_place l c ≡ cursor_at c.page.0 (c.slot.0 + 1)
  next-slot t h = rw (t, lt-ltb _ _ h)

  pub next-page : stands l c ≡ true → on_page l c.page.0 ≤ c.slot.0 + 1 → next_place l c ≡ cursor_at (c.page.0 + 1) 0
  next-page t h = rw (t, le-ltb _ _ h)

  -- the entry here
  pub entry-none : (s : List ℕ) → stands l c ≡ false → (entry_here s l c ≡ []) × (place_here s l c ≡ 0)
  entry-none s t = (rw t, rw t)

  pub entry-stored : (s : List ℕ) → stands l c ≡ true
      → (entry_here s l c ≡ stored_entry s l c.page.0 c.slot.0) × (place_here s l c ≡ min (entry_at l c.page.0 c.slot.0) (length s))
  entry-stored s t = (rw t, rw t)
