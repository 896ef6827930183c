-- An archive index, and a writer's list, as a list of entries: rules I5, I7, I15 and I32.
use Rattle.std.specs.Prelude.{Bool, true, ◌&&◌, cond, List, [], ◌∷◌, ◌++◌, ℕ, zero, suc, ◌*◌, ◌/◌, eqb, length, take}
use Rattle.parts.specs.Part.{part_at}
use Rattle.key.specs.Order.{compared, is_below, is_equal}
use Rattle.index_layout.specs.declared.Layout.{Layout}
use Rattle.index_layout.specs.Layout.{on_page, layout_of}
use Rattle.index_entry.specs.Entry.{stored_entry}

-- An entry is its bytes; its key is the first k of them (rule I5).
abbrev pub Entry : Type 0
Entry = List ℕ

-- The n numbered entries from number i on.
unfoldable pub entries_from : (ℕ → Entry) → (i n : ℕ) → List Entry
entries_from entry i zero = []
entries_from entry i (suc n) = entry i ∷ entries_from entry (suc i) n

-- The entries of n pages from page p on, in each from slot 0 on (rule I7).
unfoldable pub pages_from : List ℕ → Layout → (p n : ℕ) → List Entry
pages_from s l p zero = []
pages_from s l p (suc n) = entries_from (stored_entry s l p) 0 (on_page l p) ++ pages_from s l (suc p) n

-- The entries of an index (rule I32).
abbrev pub entries_under : List ℕ → Layout → List Entry
entries_under s l = pages_from s l 0 l.pages

abbrev pub index_entries : List ℕ → List Entry
index_entries s = entries_under s (layout_of s)

-- The entries of a list, each of as many bytes as the next (rules I15, I20).
unfoldable pub list_entries : (size : ℕ) → List ℕ → List Entry
list_entries size list = entries_from (λ g. part_at list (g * size) size) 0 (length list / size)

-- The bytes of entries, in order, with nothing between: the list that a writer takes (rule I15).
unfoldable pub joined : List Entry → List ℕ
joined [] = []
joined (e ∷ rest) = e ++ joined rest

-- Whether each entry has this many bytes.
unfoldable pub sized : ℕ → List Entry → Bool
sized size [] = true
sized size (e ∷ rest) = eqb (length e) size && sized size rest

-- Whether the keys rise strictly (rule I11): each is below the next.
unfoldable pub below_first : (k : ℕ) → Entry → List Entry → Bool
below_first k e [] = true
below_first k e (f ∷ rest) = is_below (compared (take k e) (take k f))

unfoldable pub rises : (k : ℕ) → List Entry → Bool
rises k [] = true
rises k (e ∷ rest) = below_first k e rest && rises k rest

-- The first entry whose whole key is the sought one.
pub data Sought : Type 0 where
  here : Entry → Sought
  nowhere : Sought

unfoldable pub first_with : (k : ℕ) → (key : List ℕ) → List Entry → Sought
first_with k key [] = nowhere
first_with k key (e ∷ rest) = cond (is_equal (compared (take k e) key)) (here e) (first_with k key rest)
