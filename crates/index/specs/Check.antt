-- The checks of the pages and the full check of an index, in their order: rules I8, I11, I17 and I18.
use Rattle.std.specs.Prelude.{Bool, not, ◌&&◌, cond, List, ℕ, ◌-◌, ◌*◌, eqb, take}
use Rattle.parts.specs.Part.{part_at, same_bytes, all_zero}
use Rattle.key.specs.Order.{compared, is_below}
use Rattle.md5_digest.specs.Message.{md5}
use Rattle.refusal.specs.Check.{Check, refused_if, first, first_from}
use Rattle.refusal.specs.Outcome.{Outcome, answered, after}
use Rattle.refusal.specs.Number.{index_page_hash, index_padding, index_order, last_key}
use Rattle.index_layout.specs.declared.Layout.{Layout}
use Rattle.index_layout.specs.Layout.{page_size, hash_length, entry_size, on_page, entry_number, entry_at, last_key_offset, page_hash_at, layout_of, page_of, key_at}
use Rattle.index_open.specs.Open.{opening, layout_values}

-- 6: the page's hash is not the stored one (rule I17).
unfoldable pub page_hash_check : List ℕ → Layout → ℕ → Check
page_hash_check s l p = refused_if (not (same_bytes (take hash_length (md5 (page_of s p))) (part_at s (page_hash_at l p) hash_length))) index_page_hash p

-- 7: the bytes after a page's entries are not all zero (rules I8, I17).
unfoldable pub padding_check : List ℕ → Layout → ℕ → Check
padding_check s l p =
    refused_if (not (all_zero (part_at s (entry_at l p (on_page l p)) (page_size - on_page l p * entry_size l)))) index_padding p

-- The key before slot i of page p: that of the slot before, or of the last entry on the page before.
unfoldable pub key_before : List ℕ → Layout → ℕ → ℕ → List ℕ
key_before s l p i = cond (eqb i 0) (key_at s l (p - 1) (on_page l (p - 1) - 1)) (key_at s l p (i - 1))

-- 8: a key not above the one before (rules I11, I17). The first entry of the file, slot 0 of page 0, has none before it.
unfoldable pub not_above : List ℕ → Layout → ℕ → ℕ → Bool
not_above s l p i = not (eqb i 0 && eqb p 0) && not (is_below (compared (key_before s l p i) (key_at s l p i)))

unfoldable pub order_check : List ℕ → Layout → ℕ → ℕ → Check
order_check s l p i = refused_if (not_above s l p i) index_order (entry_number l p i)

-- 9: the stored last key is not the key of the page's last entry (rule I17).
unfoldable pub last_key_check : List ℕ → Layout → ℕ → Check
last_key_check s l p =
    refused_if (not (same_bytes (part_at s (last_key_offset l p) l.key_length) (key_at s l p (on_page l p - 1)))) last_key p

-- One page: 6, 7, 8 at the first such entry, 9 (rule I17).
unfoldable pub page_check : List ℕ → Layout → ℕ → Check
page_check s l p =
    first (page_hash_check s l p) (first (padding_check s l p) (first (first_from (order_check s l p) 0 (on_page l p)) (last_key_check s l p)))

-- All pages, one after the other.
unfoldable pub pages_check : List ℕ → Layout → Check
pages_check s l = first_from (page_check s l) 0 l.pages

-- The full check (rule I18).
unfoldable pub full_check : List ℕ → Check
full_check s = first (opening s) (pages_check s (layout_of s))

-- What the full check gives.
abbrev pub check_outcome : List ℕ → Outcome
check_outcome s = after (full_check s) (answered (layout_values (layout_of s)))
