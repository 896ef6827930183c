-- A written index passes the full check, and its layout and list are those it was made from.
use mathlib.Core.Path.{◌≡◌, refl, sym, ap, ap₂, subst, ◌∙◌}
use mathlib.Core.Bool.{true, false, not}
use mathlib.Core.List.{List, ◌++◌, append_assoc}
use Prim.Native.Nat.{ℕ, ◌+◌, ◌-◌, ◌*◌, ◌≤◌, ◌<◌}
use native.Mathlib.Nat.{zero-mul, add-zero, add-mul, mul_assoc, mul-one, mul-le-mul_right, mul-le-mul_left}
use native.Mathlib.Decide.{dec_lt}
use native.Mathlib.Omega.{arith}
use lib.Dec.{ltb}
use lib.ListN.{length, take, drop, replicate, length-append, length-drop, length-replicate}
use lib.Seq.{drop_at, take_all}
use borrow.Author.Tests.{le-ltb, eq-eqb}
use Rattle.parts.specs.Part.{byte_at, part_at, all_zero}
use Rattle.parts.proofs.Laws.{part-of-part, same_bytes-of-eq, all_zero-replicate}
use Rattle.parts.proofs.Parts.{part-after, parts_same, parts-of, parts-part}
use Rattle.numbers.specs.Number.{little_at, within}
use Rattle.numbers.proofs.Laws.{within-inside}
use Rattle.md5_digest.specs.Message.{md5, digest_of, little_bytes}
use Rattle.key.specs.Order.{compared, is_below}
use Rattle.refusal.specs.Check.{silent}
use Rattle.refusal.specs.Number.{index_short, footer_hash, entry_count, index_length, index_page_hash, index_padding, index_order, last_key}
use Rattle.refusal.specs.Number.{footer_version, footer_reserved, footer_page_size, footer_offset_width, footer_size_width, footer_key_length, footer_hash_length}
use Rattle.refusal.proofs.Laws.{quiet, skip, from-silent}
use Rattle.index_layout.specs.declared.Layout.{Layout}
use Rattle.index_layout.specs.Layout.{page_size, footer_size, hash_length, version_at, reserved_at, page_kb_offset, offset_width_at, size_width_at, key_length_at}
use Rattle.index_layout.specs.Layout.{hash_length_at, footer_hash_at, least_version, most_version, page_kb_value, least_offset_width, most_offset_width, size_width}
use Rattle.index_layout.specs.Layout.{least_key_length, most_key_length, most_entries, footer, entry_count_of, footer_hash_of, entry_size, full, placed_on, placed_number}
use Rattle.index_layout.specs.Layout.{on_page, entry_number, page_offset, entry_at, last_key_offset, page_hash_at, index_length_of, layout_with, layout_from, layout_of, page_of}
use Rattle.index_layout.specs.Entries.{entries_of, entries_by, list_of}
use Rattle.index_layout.proofs.Laws.{placed-full, placed-fits, on-page-placed}
use Rattle.index_open.specs.Open.{field_check, fields_check, footer_hash_check, footer_check, opening}
use Rattle.index_open.proofs.Opened.{pages-hold}
use Rattle.index.specs.Check.{page_hash_check, padding_check, not_above, order_check, last_key_check, page_check, pages_check, full_check}
use Rattle.index_footer.specs.Footer.{fields, hashed_fields, footer_with}
use Rattle.index_footer.proofs.Laws.{keys-begin, first-eight-length, footer-length}
use Rattle.index_file.specs.File.{list_at, entries_in, page_in, last_key_in, page_hash_in, pages, last_keys, page_hashes, file_of}
use Rattle.index_file.specs.Held.{Held}
use Rattle.index_file.proofs.Parts.{some-placed, entries-length, last-key-length, pages-length, last-keys-length, file-length, page-there, entries-there}
use Rattle.index_writer.specs.declared.Settings.{Settings}
use Rattle.index_writer.specs.Write.{list_entry_size, layout_for, key_in_list, write_check}
use Rattle.index_writer.proofs.Passed.{Passed, passed, held}
use Rattle.index_round_trip.proofs.Paged.{Same, key_of, last-same, slot-order}

-- ---- the footer
module _ (l : Layout) (contents : List ℕ) where
  -- the fields stand in it where they are read
  footer-fields : part_at (footer_with l contents) version_at (footer_hash_at - version_at) ≡ fields l
  unfolding footer_with hashed_fields fields md5 digest_of little_bytes
  footer-fields = refl

  footer-hash-there : footer_hash_of (footer_with l contents) ≡ take hash_length (md5 (fields l ++ replicate hash_length 0))
  unfolding footer_with hashed_fields fields md5 digest_of little_bytes
  footer-hash-there = refl

  footer-count : l.entries < 4294967296 → entry_count_of (footer_with l contents) ≡ l.entries
  unfolding footer_with hashed_fields fields md5 digest_of little_bytes little_at
  footer-count h = omega arith

  -- and tell the layout
  footer-layout : l.entries < 4294967296 → l ≡ layout_with l.version l.offset_width l.key_length l.entries
      → layout_from (footer_with l contents) ≡ l
  unfolding layout_from footer_with hashed_fields fields md5 digest_of little_bytes
  footer-layout h e = ap (layout_with l.version l.offset_width l.key_length) (footer-count h) ∙ sym e

field-quiet : (f : List ℕ) (at low high number x : ℕ) → byte_at f at ≡ x → low ≤ x → x ≤ high → field_check f at low high number ≡ silent
field-quiet f at low high number x e h k =
    quiet number at refl (ap not (ap (λ n. within n low high) e ∙ within-inside low high x h k))

module _ (l : Layout) (contents : List ℕ) (v : l.version ≤ most_version) (o : (least_offset_width ≤ l.offset_width) × (l.offset_width ≤ most_offset_width))
    (k : (least_key_length ≤ l.key_length) × (l.key_length ≤ most_key_length)) where
  fields-quiet : fields_check (footer_with l contents) ≡ silent
  unfolding footer_with hashed_fields fields md5 digest_of little_bytes
  fields-quiet =
      let f : List ℕ = footer_with l contents in
      skip (field-quiet f version_at least_version most_version footer_version l.version refl (omega arith) v)
      (skip (field-quiet f reserved_at 0 0 footer_reserved 0 refl (omega arith) (omega arith))
      (skip (field-quiet f (reserved_at + 1) 0 0 footer_reserved 0 refl (omega arith) (omega arith))
      (skip (field-quiet f page_kb_offset page_kb_value page_kb_value footer_page_size page_kb_value refl (omega arith) (omega arith))
      (skip (field-quiet f offset_width_at least_offset_width most_offset_width footer_offset_width l.offset_width refl o.0 o.1)
      (skip (field-quiet f size_width_at size_width size_width footer_size_width size_width refl (omega arith) (omega arith))
      (skip (field-quiet f key_length_at least_key_length most_key_length footer_key_length l.key_length refl k.0 k.1)
      (field-quiet f hash_length_at hash_length hash_length footer_hash_length hash_length refl (omega arith) (omega arith))))))))

  hash-quiet : footer_hash_check (footer_with l contents) ≡ silent
  hash-quiet =
      quiet footer_hash 0 refl
      (ap not (same_bytes-of-eq _ _ (ap (λ s. take hash_length (md5 (s ++ replicate hash_length 0))) (footer-fields l contents)
      ∙ sym (footer-hash-there l contents))))

  footer-quiet : l.entries ≤ most_entries → footer_check (footer_with l contents) ≡ silent
  footer-quiet h =
      skip fields-quiet (skip hash-quiet (quiet entry_count 0 refl (ap (ltb most_entries) (footer-count l contents (omega arith))
      ∙ le-ltb most_entries l.entries h)))

-- ---- the file
module _ (list : List ℕ) (l : Layout) (h : Held list l) where
  abbrev file : List ℕ
  file = file_of list l

  abbrev contents : List ℕ
  contents = last_keys list l ++ page_hashes list l

  front_length : length (pages list l ++ last_keys list l ++ page_hashes list l) ≡ index_length_of l - footer_size
  unfolding file_of
  front_length =
      let whole = length-append (pages list l ++ last_keys list l ++ page_hashes list l) (footer_with l contents) in
      omega (arith, file-length list l h, footer-length l contents, whole)

  pub footer-there : footer file ≡ footer_with l contents
  unfolding file_of
  footer-there =
      drop_at (pages list l ++ last_keys list l ++ page_hashes list l) (footer_with l contents) (length file - footer_size)
      (front_length ∙ ap (λ n. n - footer_size) (sym (file-length list l h)))

  -- the pages, the last keys and the page hashes, with what follows each
  pages-first : file ≡ pages list l ++ (last_keys list l ++ (page_hashes list l ++ footer_with l contents))
  unfolding file_of
  pages-first =
      append_assoc (pages list l ++ last_keys list l) (page_hashes list l) (footer_with l contents)
      ∙ append_assoc (pages list l) (last_keys list l) (page_hashes list l ++ footer_with l contents)

  pub page-is : (p : ℕ) → p < l.pages → page_of file p ≡ page_in list l p
  page-is p k = ap (λ s. page_of s p) pages-first ∙ page-there list l h _ p k

  last-key-is : (p : ℕ) → p < l.pages → part_at file (last_key_offset l p) l.key_length ≡ last_key_in list l p
  unfolding last_key_offset last_keys
  last-key-is p k =
      ap (λ s. part_at s (last_key_offset l p) l.key_length) pages-first
      ∙ part-after (pages list l) (last_keys list l ++ (page_hashes list l ++ footer_with l contents))
      (p * l.key_length) (page_offset l.pages) l.key_length (pages-length list l h ∙ keys-begin l)
      ∙ parts-part (last_key_in list l) l.key_length l.pages (page_hashes list l ++ footer_with l contents) (last-key-length list l h) p k

  page-hash-is : (p : ℕ) → p < l.pages → part_at file (page_hash_at l p) hash_length ≡ page_hash_in list l p
  unfolding page_hash_at last_key_offset page_hashes page_hash_in
  page-hash-is p k =
      let at : page_hash_at l p ≡ page_offset l.pages + (l.pages * l.key_length + p * hash_length) = omega arith in
      ap₂ (λ s n. part_at s n hash_length) pages-first at
      ∙ part-after (pages list l) (last_keys list l ++ (page_hashes list l ++ footer_with l contents))
      (l.pages * l.key_length + p * hash_length) (page_offset l.pages) hash_length (pages-length list l h ∙ keys-begin l)
      ∙ part-after (last_keys list l) (page_hashes list l ++ footer_with l contents) (p * hash_length)
      (l.pages * l.key_length) hash_length (last-keys-length list l h)
      ∙ parts-part (page_hash_in list l) hash_length l.pages (footer_with l contents) (λ j m. first-eight-length (page_in list l j)) p k

  -- a page's entries and its padding
  pub entries-are : (p : ℕ) → p < l.pages → entries_of file l p ≡ entries_in list l p
  entries-are p k = ap (λ m. part_at file (page_offset p) (m * entry_size l)) (on-page-placed l p) ∙ entries-there list l h file p k (page-is p k)

  padding-is : (p : ℕ) → p < l.pages
      → part_at file (entry_at l p (placed_on l p)) (page_size - placed_on l p * entry_size l) ≡ replicate (page_size - placed_on l p * entry_size l) 0
  unfolding page_in entry_at
  padding-is p k =
      let size = placed_on l p * entry_size l in
      let rest = page_size - size in
      sym (part-of-part file (page_offset p) page_size size rest (omega (arith, placed-fits l p)))
      ∙ ap (λ s. part_at s size rest) (page-is p k)
      ∙ ap (take rest) (drop_at (entries_in list l p) (replicate rest 0) size (entries-length list l h p k))
      ∙ take_all rest (replicate rest 0) (omega (arith, length-replicate {A = ℕ} rest 0))

  pub same : Same file list l
  same = record { held = h; entries = entries-are }

  -- the list is the one it was made from
  list-begins : (p : ℕ) → list_at l p 0 ≡ p * (full l * entry_size l)
  list-begins p = ap (λ n. n * entry_size l) (add-zero (p * full l)) ∙ mul_assoc p (full l) (entry_size l)

  whole-page : (p : ℕ) → p < l.pages → entries_in list l p ≡ part_at list (p * (full l * entry_size l)) (full l * entry_size l)
  unfolding placed_on
  whole-page p k = ap (λ n. part_at list n (placed_on l p * entry_size l)) (list-begins p) ∙ go (dec_lt (l.entries - p * full l) (full l))
    where
      go : Dec (l.entries - p * full l < full l) → part_at list (p * (full l * entry_size l)) (placed_on l p * entry_size l)
          ≡ part_at list (p * (full l * entry_size l)) (full l * entry_size l)
      go (no more) =
          let every : placed_on l p ≡ full l = omega arith in
          ap (λ m. part_at list (p * (full l * entry_size l)) (m * entry_size l)) every
      go (yes less) =
          let rest : placed_on l p ≡ l.entries - p * full l = omega arith in
          let count : l.entries ≡ p * full l + placed_on l p = omega (arith, rest, (some-placed list l h p k).0, (some-placed list l h p k).1) in
          let bytes : length (drop (p * (full l * entry_size l)) list) ≡ placed_on l p * entry_size l =
          length-drop (p * (full l * entry_size l)) list
          ∙ omega (arith, h.bytes, ap (λ n. n * entry_size l) count, add-mul (p * full l) (placed_on l p) (entry_size l), mul_assoc p (full l) (entry_size l)) in
          take_all (placed_on l p * entry_size l) (drop (p * (full l * entry_size l)) list) (omega (arith, bytes))
          ∙ sym (take_all (full l * entry_size l) (drop (p * (full l * entry_size l)) list)
          (omega (arith, bytes, mul-le-mul_right (entry_size l) (placed-full l p))))

  list-within : length list ≤ l.pages * (full l * entry_size l)
  list-within =
      let hold : l.entries ≤ l.pages * full l = subst (λ n. l.entries ≤ n * full l) (sym h.paged) (pages-hold l.entries (full l) h.holds) in
      omega (arith, h.bytes, mul-le-mul_right (entry_size l) hold, mul_assoc l.pages (full l) (entry_size l))

  pub list-is : entries_by file l ≡ list
  unfolding entries_by
  list-is =
      parts_same (entries_of file l) (entries_in list l) 0 l.pages (λ p a b. entries-are p (omega arith))
      ∙ parts_same (entries_in list l) (λ p. part_at list (p * (full l * entry_size l)) (full l * entry_size l)) 0 l.pages (λ p a b. whole-page p (omega arith))
      ∙ parts-of list (full l * entry_size l) 0 l.pages
      ∙ ap (λ n. part_at list n (l.pages * (full l * entry_size l))) (zero-mul (full l * entry_size l))
      ∙ take_all (l.pages * (full l * entry_size l)) list list-within

  -- the first entry has none before it
  first-in-order : (p i : ℕ) → (0 < placed_number l p i → ⊥) → not_above file l p i ≡ false
  unfolding not_above
  first-in-order p i m =
      let page : p ≡ 0 = omega (arith, m, mul-le-mul_left p h.holds, mul-one p) in
      let slot : i ≡ 0 = omega (arith, m) in
      rw (eq-eqb p 0 page, eq-eqb i 0 slot)

  -- ---- each check of a page is silent
  module _ (rises : (g : ℕ) → 1 ≤ g → g < l.entries → is_below (compared (key_of list l (g - 1)) (key_of list l g)) ≡ true) (p : ℕ) (k : p < l.pages) where
    page-hash-quiet : page_hash_check file l p ≡ silent
    unfolding page_hash_check page_hash_in
    page-hash-quiet = quiet index_page_hash p refl (ap not (same_bytes-of-eq _ _ (ap (λ m. take hash_length (md5 m)) (page-is p k) ∙ sym (page-hash-is p k))))

    padding-quiet : padding_check file l p ≡ silent
    unfolding padding_check
    padding-quiet =
        quiet index_padding p refl
        (ap (λ n. not (all_zero (part_at file (entry_at l p n) (page_size - n * entry_size l)))) (on-page-placed l p)
        ∙ ap not (ap all_zero (padding-is p k) ∙ all_zero-replicate (page_size - placed_on l p * entry_size l)))

    last-key-quiet : last_key_check file l p ≡ silent
    unfolding last_key_check
    last-key-quiet = quiet last_key p refl (ap not (same_bytes-of-eq _ _ (last-key-is p k ∙ sym (last-same file list l same p k))))

    slot-quiet : (i : ℕ) → i < on_page l p → order_check file l p i ≡ silent
    unfolding order_check
    slot-quiet i n = quiet index_order (entry_number l p i) refl (in_order (dec_lt 0 (placed_number l p i)))
      where
        in_order : Dec (0 < placed_number l p i) → not_above file l p i ≡ false
        in_order (yes m) =
            slot-order file list l same p i k n m ∙ ap not (rises (placed_number l p i) m (omega (arith, on-page-placed l p, (some-placed list l h p k).0)))
        in_order (no m) = first-in-order p i m

    page-quiet : page_check file l p ≡ silent
    unfolding page_check
    page-quiet =
        skip page-hash-quiet (skip padding-quiet (skip (from-silent (order_check file l p) 0 (on_page l p) (λ i a b. slot-quiet i (omega arith))) last-key-quiet))

index-long : (l : Layout) → footer_size ≤ index_length_of l
unfolding index_length_of
index-long l = omega arith

-- ---- a list and settings that are not refused
module _ (s : Settings) (list : List ℕ) (room : ℕ) (Quiet-write : write_check s list room ≡ silent) where
  abbrev l : Layout
  l = layout_for s list

  given : Passed s list room
  given = passed s list room Quiet-write

  stored : Held list l
  stored = held s list room given

  ranges : (l.version ≤ most_version)
      × (((least_offset_width ≤ l.offset_width) × (l.offset_width ≤ most_offset_width))
      × ((least_key_length ≤ l.key_length) × (l.key_length ≤ most_key_length)))
  unfolding layout_for
  ranges = (given.version, ((given.offset-low, given.offset-high), (given.key-low, given.key-high)))

  few : l.entries ≤ most_entries
  unfolding layout_for
  few = given.few

  -- its layout is that of the settings and the list
  pub layout-back : layout_of (file_of list l) ≡ l
  unfolding layout_for
  layout-back = ap layout_from (footer-there list l stored) ∙ footer-layout l _ (omega (arith, few)) refl

  opening-quiet : opening (file_of list l) ≡ silent
  opening-quiet =
      skip (skip (quiet index_short 0 refl (le-ltb (length (file_of list l)) footer_size (omega (arith, file-length list l stored, index-long l))))
      (ap footer_check (footer-there list l stored) ∙ footer-quiet l _ ranges.0 ranges.1.0 ranges.1.1 few))
      (quiet index_length 0 refl (ap not (eq-eqb _ _ (file-length list l stored ∙ ap index_length_of (sym layout-back)))))

  rises : (g : ℕ) → 1 ≤ g → g < l.entries → is_below (compared (key_of list l (g - 1)) (key_of list l g)) ≡ true
  unfolding layout_for entry_size list_entry_size key_in_list
  rises = given.rises

  -- it passes the full check
  pub full-quiet : full_check (file_of list l) ≡ silent
  unfolding full_check pages_check
  full-quiet =
      skip opening-quiet
      (ap (pages_check (file_of list l)) layout-back
      ∙ from-silent (page_check (file_of list l) l) 0 l.pages (λ p a b. page-quiet list l stored rises p (omega arith)))

  -- and its list is the list
  pub list_back : list_of (file_of list l) ≡ list
  list_back = ap (entries_by (file_of list l)) layout-back ∙ list-is list l stored
