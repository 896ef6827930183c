-- The bytes of an index that is written from a list of entries: rules I7 to I9 and I22.
use Rattle.std.specs.Prelude.{List, ◌++◌, ℕ, ◌-◌, ◌*◌, take, replicate}
use Rattle.parts.specs.Part.{part_at, parts_from}
use Rattle.md5_digest.specs.Message.{md5}
use Rattle.index_layout.specs.declared.Layout.{Layout}
use Rattle.index_layout.specs.Layout.{page_size, hash_length, entry_size, placed_on, placed_number, page_of, key_at}
use Rattle.index_footer.specs.Footer.{footer_with}

-- Where slot i of page p stands in the list, which has nothing between its entries (rule I15).
abbrev pub list_at : Layout → ℕ → ℕ → ℕ
list_at l p i = placed_number l p i * entry_size l

-- The entries of page p (rule I7).
abbrev pub entries_in : List ℕ → Layout → ℕ → List ℕ
entries_in list l p = part_at list (list_at l p 0) (placed_on l p * entry_size l)

-- A page: its entries, and zeros after them (rule I8).
unfoldable pub page_in : List ℕ → Layout → ℕ → List ℕ
page_in list l p = entries_in list l p ++ replicate (page_size - placed_on l p * entry_size l) 0

-- The key of the last entry on page p.
unfoldable pub last_key_in : List ℕ → Layout → ℕ → List ℕ
last_key_in list l p = part_at list (list_at l p (placed_on l p - 1)) l.key_length

-- The first eight bytes of a page's hash.
unfoldable pub page_hash_in : List ℕ → Layout → ℕ → List ℕ
page_hash_in list l p = take hash_length (md5 (page_in list l p))

-- All pages; the last key of each; the hash of each (rule I9).
unfoldable pub pages : List ℕ → Layout → List ℕ
pages list l = parts_from (page_in list l) 0 l.pages

unfoldable pub last_keys : List ℕ → Layout → List ℕ
last_keys list l = parts_from (last_key_in list l) 0 l.pages

unfoldable pub page_hashes : List ℕ → Layout → List ℕ
page_hashes list l = parts_from (page_hash_in list l) 0 l.pages

-- The last keys of the pages that bytes begin with, each from the last slot that has an entry placed in it, and the hashes of
-- these pages.
abbrev pub last_key_of : List ℕ → Layout → ℕ → List ℕ
last_key_of s l p = key_at s l p (placed_on l p - 1)

unfoldable pub last_keys_of : List ℕ → Layout → List ℕ
last_keys_of s l = parts_from (last_key_of s l) 0 l.pages

unfoldable pub hashes_of : List ℕ → Layout → List ℕ
hashes_of s l = parts_from (λ p. take hash_length (md5 (page_of s p))) 0 l.pages

-- The whole file (rule I22).
unfoldable pub file_of : List ℕ → Layout → List ℕ
file_of list l =
    pages list l ++ last_keys list l ++ page_hashes list l ++ footer_with l (last_keys list l ++ page_hashes list l)
