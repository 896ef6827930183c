-- What a function that is not public requires; no rule of its own.
use Rattle.std.specs.Prelude.{◌≡◌, List, ℕ, ◌*◌, ◌≤◌, length}
use Rattle.index_layout.specs.declared.Layout.{Layout}
use Rattle.index_layout.specs.Layout.{entry_size, full, pages_for}

-- The list has the entries of the layout, the pages are those that the entries take, and a page holds an entry.
pub record Held (list : List ℕ) (l : Layout) : Type 0 where
  pub bytes : length list ≡ l.entries * entry_size l
  pub paged : l.pages ≡ pages_for l.entries (full l)
  pub holds : 1 ≤ full l
