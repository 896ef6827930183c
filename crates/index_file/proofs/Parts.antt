-- The lengths of the parts of a written file, and where each part stands in it.
use mathlib.Core.Path.{◌≡◌, sym, ap, ap₂, ◌∙◌}
use mathlib.Core.List.{List, [], ◌++◌, append_assoc, append-nil}
use Prim.Native.Nat.{ℕ, ◌+◌, ◌-◌, ◌*◌, ◌≤◌, ◌<◌}
use native.Mathlib.Nat.{zero-add, add-zero, add-mul, mul-add, mul-le-mul_right, one-mul, suc-mul}
use native.Mathlib.Omega.{arith}
use lib.ListN.{length, take, drop, replicate, length-append, length-replicate}
use lib.Seq.{take_at}
use Rattle.parts.specs.Part.{part_at, overlay}
use Rattle.parts.proofs.Laws.{part_at-inside, part-of-part, overlay-after, overlay-inside}
use Rattle.parts.proofs.Parts.{part-after, parts_same, parts-length, parts-part}
use Rattle.md5_digest.specs.Message.{md5}
use Rattle.refusal.specs.Check.{silent}
use Rattle.refusal.specs.Output.{filled}
use Rattle.index_layout.specs.declared.Layout.{Layout}
use Rattle.index_layout.specs.Layout.{page_size, hash_length, entry_size, full, placed_on, placed_number, page_offset, entry_at}
use Rattle.index_layout.specs.Layout.{last_key_offset, page_hash_at, index_length_of, page_of, key_at}
use Rattle.index_layout.proofs.Laws.{key-within, placed-fits}
use Rattle.index_open.proofs.Opened.{pages-tight}
use Rattle.index_file.specs.File.{list_at, entries_in, page_in, last_key_in, page_hash_in, pages, last_keys, page_hashes, last_keys_of, hashes_of, file_of}
use Rattle.index_file.specs.Held.{Held}
use Rattle.index_footer.specs.Footer.{footer_at, contents_of, footer_with}
use Rattle.index_footer.proofs.Laws.{keys-begin, hashes-begin, footer-begins, index-ends, contents-size, first-eight-length, footer-length}

-- the key in a slot of bytes whose page begins with the entries that are placed there
module _ (s list : List ℕ) (l : Layout) (p : ℕ) (e : part_at s (page_offset p) (placed_on l p * entry_size l) ≡ entries_in list l p) where
  pub placed-key : (i : ℕ) → i < placed_on l p → key_at s l p i ≡ part_at list (list_at l p i) l.key_length
  unfolding entry_at
  placed-key i n =
      let size = placed_on l p * entry_size l in
      let inside : i * entry_size l + l.key_length ≤ placed_on l p * entry_size l =
      omega (arith, mul-le-mul_right (entry_size l) n, suc-mul i (entry_size l), key-within l) in
      let at : list_at l p 0 + i * entry_size l ≡ list_at l p i =
      omega (arith, add-mul (p * full l) i (entry_size l), ap (λ m. m * entry_size l) (add-zero (p * full l))) in
      sym (part-of-part s (page_offset p) size (i * entry_size l) l.key_length inside)
      ∙ ap (λ r. part_at r (i * entry_size l) l.key_length) e
      ∙ part-of-part list (list_at l p 0) size (i * entry_size l) l.key_length inside
      ∙ ap (λ n. part_at list n l.key_length) at

module _ (list : List ℕ) (l : Layout) (h : Held list l) where
  -- the entries up to the end of a page are there
  pub some-placed : (p : ℕ) → p < l.pages → (placed_number l p (placed_on l p) ≤ l.entries) × (1 ≤ placed_on l p)
  unfolding placed_on
  some-placed p k =
      let tight : p * full l < l.entries = pages-tight l.entries (full l) p h.holds (rw h.paged at k) in
      (omega (arith, tight), omega (arith, tight, h.holds))

  -- every page but the last is full
  pub page-full : (p : ℕ) → p + 1 < l.pages → placed_on l p ≡ full l
  unfolding placed_on
  page-full p k =
      omega (arith, pages-tight l.entries (full l) (p + 1) h.holds (rw h.paged at k), add-mul p 1 (full l), one-mul (full l))

  entries-inside : (p : ℕ) → p < l.pages → list_at l p 0 + placed_on l p * entry_size l ≤ length list
  entries-inside p k =
      let most = mul-le-mul_right (entry_size l) (some-placed p k).0 in
      omega (arith, h.bytes, most, add-mul (p * full l) (placed_on l p) (entry_size l), ap (λ n. n * entry_size l) (add-zero (p * full l)))

  pub entries-length : (p : ℕ) → p < l.pages → length (entries_in list l p) ≡ placed_on l p * entry_size l
  entries-length p k = part_at-inside list (list_at l p 0) (placed_on l p * entry_size l) (entries-inside p k)

  pub page-length : (p : ℕ) → p < l.pages → length (page_in list l p) ≡ page_size
  unfolding page_in
  page-length p k =
      length-append (entries_in list l p) (replicate (page_size - placed_on l p * entry_size l) 0)
      ∙ ap₂ ◌+◌ (entries-length p k) (length-replicate (page_size - placed_on l p * entry_size l) 0) ∙ omega (arith, placed-fits l p)

  last-inside : (p : ℕ) → p < l.pages → list_at l p (placed_on l p - 1) + l.key_length ≤ length list
  last-inside p k =
      let some = some-placed p k in
      let last = placed_number l p (placed_on l p - 1) in
      let one : placed_number l p (placed_on l p - 1) + 1 ≤ l.entries = omega (arith, some.0, some.1) in
      omega (arith, h.bytes, key-within l, mul-le-mul_right (entry_size l) one, add-mul last 1 (entry_size l), one-mul (entry_size l))

  pub last-key-length : (p : ℕ) → p < l.pages → length (last_key_in list l p) ≡ l.key_length
  unfolding last_key_in
  last-key-length p k = part_at-inside list (list_at l p (placed_on l p - 1)) l.key_length (last-inside p k)

  pub pages-length : length (pages list l) ≡ last_key_offset l 0
  unfolding pages
  pages-length = parts-length (page_in list l) page_size 0 l.pages (λ j a b. page-length j (omega arith)) ∙ sym (keys-begin l)

  pub last-keys-length : length (last_keys list l) ≡ l.pages * l.key_length
  unfolding last_keys
  last-keys-length = parts-length (last_key_in list l) l.key_length 0 l.pages (λ j a b. last-key-length j (omega arith))

  pub hashes-length : length (page_hashes list l) ≡ l.pages * hash_length
  unfolding page_hashes page_hash_in
  hashes-length = parts-length (page_hash_in list l) hash_length 0 l.pages (λ j a b. first-eight-length (page_in list l j))

  pub contents-length : length (last_keys list l ++ page_hashes list l) ≡ footer_at l - last_key_offset l 0
  contents-length =
      length-append (last_keys list l) (page_hashes list l) ∙ ap₂ ◌+◌ last-keys-length hashes-length
      ∙ sym (mul-add l.pages l.key_length hash_length) ∙ sym (contents-size l)

  -- the pages and the last keys, and the page hashes after them
  abbrev two : List ℕ
  two = pages list l ++ last_keys list l

  two-length : length two ≡ page_hash_at l 0
  two-length = length-append (pages list l) (last_keys list l) ∙ ap₂ ◌+◌ (pages-length ∙ keys-begin l) last-keys-length ∙ sym (hashes-begin l)

  abbrev three : List ℕ
  three = pages list l ++ last_keys list l ++ page_hashes list l

  three-length : length three ≡ footer_at l
  three-length =
      length-append two (page_hashes list l) ∙ ap₂ ◌+◌ two-length hashes-length
      ∙ omega (arith, hashes-begin l, keys-begin l, footer-begins l, mul-add l.pages l.key_length hash_length)

  pub file-length : length (file_of list l) ≡ index_length_of l
  unfolding file_of
  file-length =
      length-append three (footer_with l (last_keys list l ++ page_hashes list l))
      ∙ ap₂ ◌+◌ three-length (footer-length l (last_keys list l ++ page_hashes list l)) ∙ sym (index-ends l)

  -- what stands where, whatever follows
  pub page-there : (rest : List ℕ) (p : ℕ) → p < l.pages → page_of (pages list l ++ rest) p ≡ page_in list l p
  unfolding pages
  page-there rest p k = parts-part (page_in list l) page_size l.pages rest page-length p k

  -- a page begins with its entries
  pub entries-there : (s : List ℕ) (p : ℕ) → p < l.pages → page_of s p ≡ page_in list l p
      → part_at s (page_offset p) (placed_on l p * entry_size l) ≡ entries_in list l p
  unfolding page_in
  entries-there s p k e =
      let size = placed_on l p * entry_size l in
      ap (λ n. part_at s n size) (sym (add-zero (page_offset p)))
      ∙ sym (part-of-part s (page_offset p) page_size 0 size (omega (arith, placed-fits l p)))
      ∙ ap (λ r. part_at r 0 size) e
      ∙ take_at (entries_in list l p) (replicate (page_size - size) 0) size (entries-length p k)

  contents-there : (rest : List ℕ) → contents_of (three ++ rest) l ≡ last_keys list l ++ page_hashes list l
  contents-there rest =
      let contents = last_keys list l ++ page_hashes list l in
      let size = footer_at l - last_key_offset l 0 in
      ap (λ s. contents_of (s ++ rest) l) (append_assoc (pages list l) (last_keys list l) (page_hashes list l))
      ∙ ap (λ s. contents_of s l) (append_assoc (pages list l) contents rest)
      ∙ ap (λ n. part_at (pages list l ++ (contents ++ rest)) n size) (sym (add-zero (last_key_offset l 0)))
      ∙ part-after (pages list l) (contents ++ rest) 0 (last_key_offset l 0) size pages-length
      ∙ take_at contents rest size contents-length

  -- the output after each step of the writer
  module _ (out o1 o2 o3 : List ℕ) (room : index_length_of l ≤ length out) (e : o1 ≡ overlay out 0 (pages list l))
      (f : o2 ≡ overlay o1 (last_key_offset l 0) (last_keys_of o1 l)) (g : o3 ≡ overlay o2 (page_hash_at l 0) (hashes_of o2 l)) where
    -- bytes laid over the start of the output stand before what is left of it
    laid : (s : List ℕ) → length s ≤ length out → overlay out 0 s ≡ s ++ drop (length s) out
    laid s k = overlay-inside out 0 s (omega arith) ∙ ap (λ n. s ++ drop n out) (zero-add (length s))

    -- what is laid after bytes that lie over the start
    next : (o a b : List ℕ) (n : ℕ) → o ≡ overlay out 0 a → length a ≡ n → overlay o n b ≡ overlay out 0 (a ++ b)
    next o a b n p q = ap₂ (λ s m. overlay s m b) p (sym q ∙ sym (zero-add (length a))) ∙ overlay-after out 0 a b

    three-room : length three ≤ length out
    three-room = omega (arith, three-length, room, index-ends l)

    two-room : length two ≤ length out
    two-room = omega (arith, three-room, length-append two (page_hashes list l))

    -- output that begins with the pages holds them
    page-held : (o rest : List ℕ) → o ≡ overlay out 0 (pages list l ++ rest) → length (pages list l ++ rest) ≤ length out → (p : ℕ) → p < l.pages
        → page_of o p ≡ page_in list l p
    page-held o rest q k p m =
        let after = drop (length (pages list l ++ rest)) out in
        ap (λ s. page_of s p) (q ∙ laid (pages list l ++ rest) k ∙ append_assoc (pages list l) rest after) ∙ page-there (rest ++ after) p m

    keys-are : last_keys_of o1 l ≡ last_keys list l
    unfolding last_keys_of last_keys last_key_in
    keys-are =
        let alone = append-nil (pages list l) in
        let held = page-held o1 [] (e ∙ ap (overlay out 0) (sym alone))
        (omega (arith, ap length alone, two-room, length-append (pages list l) (last_keys list l))) in
        parts_same _ _ 0 l.pages
        (λ p a b. placed-key o1 list l p (entries-there o1 p (omega arith) (held p (omega arith))) (placed_on l p - 1)
        (omega (arith, (some-placed p (omega arith)).1)))

    after_two : o2 ≡ overlay out 0 two
    after_two =
        f ∙ ap (overlay o1 (last_key_offset l 0)) keys-are ∙ next o1 (pages list l) (last_keys list l) (last_key_offset l 0) e pages-length

    hashes-are : hashes_of o2 l ≡ page_hashes list l
    unfolding hashes_of page_hashes page_hash_in
    hashes-are =
        parts_same _ _ 0 l.pages (λ p a b. ap (λ m. take hash_length (md5 m)) (page-held o2 (last_keys list l) after_two two-room p (omega arith)))

    after-three : o3 ≡ overlay out 0 three
    after-three = g ∙ ap (overlay o2 (page_hash_at l 0)) hashes-are ∙ next o2 two (page_hashes list l) (page_hash_at l 0) after_two two-length

    contents-are : contents_of o3 l ≡ last_keys list l ++ page_hashes list l
    contents-are = ap (λ o. contents_of o l) (after-three ∙ laid three three-room) ∙ contents-there (drop (length three) out)

    pub file-laid : overlay o3 (footer_at l) (footer_with l (contents_of o3 l)) ≡ filled silent (file_of list l) out
    unfolding filled file_of
    file-laid =
        ap (λ s. overlay o3 (footer_at l) (footer_with l s)) contents-are
        ∙ next o3 three (footer_with l (last_keys list l ++ page_hashes list l)) (footer_at l) after-three three-length
        ∙ laid (file_of list l) (omega (arith, file-length, room))
