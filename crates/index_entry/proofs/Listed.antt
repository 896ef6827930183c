-- The entries of an index, page by page and slot by slot, are its list.
use mathlib.Core.Path.{◌≡◌, sym, ap, ◌∙◌}
use mathlib.Core.List.{List}
use Prim.Native.Nat.{ℕ, ◌*◌}
use native.Mathlib.Nat.{zero-mul}
use lib.ListN.{take, drop}
use lib.Seq.{drop-drop}
use Rattle.parts.specs.Part.{part_at, parts_from}
use Rattle.parts.proofs.Parts.{parts_same, parts-of}
use Rattle.index_layout.specs.declared.Layout.{Layout}
use Rattle.index_layout.specs.Layout.{entry_size, on_page, page_offset, entry_at}
use Rattle.index_layout.specs.Entries.{entries_of, entries_by}
use Rattle.index_entry.specs.Entry.{stored_entry, EntriesOfList}

-- an entry as a part of its page and what follows
entry-of-page : (s : List ℕ) (l : Layout) (p i : ℕ) → stored_entry s l p i ≡ part_at (drop (page_offset p) s) (i * entry_size l) (entry_size l)
unfolding entry_at
entry-of-page s l p i = ap (take (entry_size l)) (sym (drop-drop (i * entry_size l) (page_offset p) s))

page-is : (s : List ℕ) (l : Layout) (p : ℕ) → parts_from (λ i. stored_entry s l p i) 0 (on_page l p) ≡ entries_of s l p
page-is s l p =
    parts_same (λ i. stored_entry s l p i) (λ i. part_at (drop (page_offset p) s) (i * entry_size l) (entry_size l)) 0 (on_page l p)
    (λ i a b. entry-of-page s l p i)
    ∙ parts-of (drop (page_offset p) s) (entry_size l) 0 (on_page l p)
    ∙ ap (λ at. part_at (drop (page_offset p) s) at (on_page l p * entry_size l)) (zero-mul (entry_size l))

pub entries-of-list : EntriesOfList
unfolding entries_by
entries-of-list s l = parts_same (λ p. parts_from (λ i. stored_entry s l p i) 0 (on_page l p)) (entries_of s l) 0 l.pages (λ p a b. page-is s l p)
