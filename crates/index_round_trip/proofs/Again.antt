-- An index that passes the full check, listed and written again with its settings, is the same file but for the contents hash.
use mathlib.Core.Path.{◌≡◌, refl, sym, ap, ap₂, subst, ◌∙◌}
use mathlib.Core.Bool.{true, not, ◌&&◌}
use mathlib.Core.List.{List, [], ◌∷◌, ◌++◌, append_assoc, append-nil}
use Prim.Native.Nat.{ℕ, zero, suc, ◌+◌, ◌-◌, ◌*◌, ◌/◌, ◌%◌, ◌≤◌, ◌<◌}
use native.Mathlib.Nat.{zero-mul, zero-add, add-zero, mul_assoc, mul-add, mul-le-mul_right, div-add-mod', mod-lt, mul-div_cancel, mul-mod_left}
use native.Mathlib.Decide.{dec_lt}
use native.Mathlib.Omega.{arith}
use lib.ListN.{length, take, drop, replicate, length-drop}
use lib.Seq.{take_all, drop-drop, get_or-drop}
use borrow.Author.Tests.{le-ltb, eq-eqb, not-false}
use Rattle.parts.specs.Part.{byte_at, part_at}
use Rattle.parts.proofs.Laws.{part_at-inside, same_bytes-eq, all_zero-eq, overlay-inside}
use Rattle.parts.proofs.Parts.{part-add, parts_same, parts-of, parts_at}
use Rattle.numbers.specs.Number.{little_at}
use Rattle.numbers.proofs.Laws.{within-inside}
use Rattle.md5_digest.specs.Message.{md5, little_bytes}
use Rattle.key.specs.Order.{compared, is_below}
use Rattle.refusal.specs.Check.{silent, first, first_from}
use Rattle.refusal.specs.Number as number
use Rattle.refusal.specs.Number.{index_page_hash, index_padding, index_order, last_key, footer_hash}
use Rattle.refusal.proofs.Laws.{silent-test, quiet, skip, first-left, first-right, from_each, from-silent}
use Rattle.index_layout.specs.declared.Layout.{Layout}
use Rattle.index_layout.specs.Layout.{page_size, footer_size, hash_length, version_at, reserved_at, page_kb_offset, size_width_at}
use Rattle.index_layout.specs.Layout.{hash_length_at, entry_count_at, footer_hash_at, least_version, most_version, page_kb_value}
use Rattle.index_layout.specs.Layout.{least_offset_width, most_offset_width, size_width, least_key_length, most_key_length, most_entries}
use Rattle.index_layout.specs.Layout.{footer, version, footer_hash_of, entry_size, full, placed_on, placed_number, on_page, entry_number}
use Rattle.index_layout.specs.Layout.{page_offset, entry_at, last_key_offset, page_hash_at, index_length_of, layout_with, layout_from, layout_of, page_of}
use Rattle.index_layout.specs.Entries.{entries_of, entries_by, list_of}
use Rattle.index_layout.proofs.Laws.{on-page-placed, on-page-fits}
use Rattle.index_open.specs.Open.{field_check, fields_check, hashed_footer, footer_hash_check}
use Rattle.index_open.specs.Open.{footer_check, footer_reading, short_check, length_check, opening}
use Rattle.index_open.proofs.Laws.{bytes_from, part_bytes}
use Rattle.index_open.proofs.Opened.{Opened, opened, field-range, full-positive, entries-held, list_length, entries-length, page-inside}
use Rattle.index.specs.Check.{page_hash_check, padding_check, order_check, last_key_check, page_check, pages_check, full_check}
use Rattle.index_footer.specs.Footer.{footer_at, contents_of, fields, hashed_fields, footer_with}
use Rattle.index_footer.proofs.Laws.{keys-begin, hashes-begin, index-ends, contents-size, first-eight-length, footer-begins}
use Rattle.index_file.specs.File.{list_at, entries_in, page_in, last_key_in, page_hash_in, pages, last_keys, page_hashes, file_of}
use Rattle.index_file.specs.Held.{Held}
use Rattle.index_file.proofs.Parts.{page-full}
use Rattle.index_writer.specs.Write.{list_entry_size, list_count, layout_for, settings_right, key_in_list, list_order_check, input_check, write_check}
use Rattle.index_writer.proofs.Laws.{room-left}
use Rattle.index_round_trip.specs.Same.{contents_hash_of, with_contents_hash, settings_of}
use Rattle.index_round_trip.proofs.Paged.{Same, key_of, last-same, slot-order}

fewer : (q p e : ℕ) → q * e < p * e → q < p
fewer q p e h = go (dec_lt q p)
  where
    go : Dec (q < p) → q < p
    go (yes less) = less
    go (no more) =
        let most : p ≤ q = omega arith in
        absurd (omega (arith, h, mul-le-mul_right e most))

module _ (s : List ℕ) (o : Opened s) where
  abbrev l : Layout
  l = layout_of s

  abbrev list : List ℕ
  list = list_of s

  held-again : Held list l
  unfolding layout_from full entry_size
  held-again = record { bytes = list_length s o; paged = refl; holds = full-positive s o }

  -- the entries of a page stand in the list after those of the full pages before it
  entries-again : (p : ℕ) → p < l.pages → entries_of s l p ≡ entries_in list l p
  unfolding entries_by
  entries-again p k =
      let at : list_at l p 0 ≡ p * (full l * entry_size l) = ap (λ n. n * entry_size l) (add-zero (p * full l)) ∙ mul_assoc p (full l) (entry_size l) in
      sym (ap₂ (λ m n. part_at list m n) at (ap (λ n. n * entry_size l) (sym (on-page-placed l p)) ∙ sym (entries-length s o p k))
      ∙ ap (λ t. part_at t (p * (full l * entry_size l)) (length (entries_of s l p))) (sym (append-nil list))
      ∙ parts_at (entries_of s l) (full l * entry_size l) l.pages [] p k
      (λ j m. entries-length s o j (omega arith) ∙ ap (λ n. n * entry_size l) (on-page-placed l j ∙ page-full list l held-again j (omega arith))))

  pub same-again : Same s list l
  same-again = record { held = held-again; entries = entries-again }

  -- the checks of the pages
  module _ (e : pages_check s l ≡ silent) where
    page-silent : (p : ℕ) → p < l.pages → page_check s l p ≡ silent
    unfolding pages_check
    page-silent p k = subst (λ i. page_check s l i ≡ silent) (zero-add p) (from_each (page_check s l) 0 l.pages e p k)

    module _ (p : ℕ) (k : p < l.pages) where
      hash-again : take hash_length (md5 (page_of s p)) ≡ part_at s (page_hash_at l p) hash_length
      unfolding page_check page_hash_check
      hash-again = same_bytes-eq _ _ (not-false _ (silent-test _ index_page_hash p (first-left (page_hash_check s l p) _ (page-silent p k))))

      padding-again : part_at s (entry_at l p (on_page l p)) (page_size - on_page l p * entry_size l) ≡ replicate (page_size - on_page l p * entry_size l) 0
      unfolding page_check padding_check entry_at
      padding-again =
          let inside : entry_at l p (on_page l p) + (page_size - on_page l p * entry_size l) ≤ length s = omega (arith, on-page-fits l p, page-inside s o p k) in
          all_zero-eq _ (not-false _ (silent-test _ index_padding p (first-left (padding_check s l p) _ (first-right (page_hash_check s l p) _ (page-silent p k)))))
          ∙ ap (λ n. replicate n 0) (part_at-inside s (entry_at l p (on_page l p)) (page_size - on_page l p * entry_size l) inside)

      rest-silent : first (first_from (order_check s l p) 0 (on_page l p)) (last_key_check s l p) ≡ silent
      unfolding page_check
      rest-silent = first-right (padding_check s l p) _ (first-right (page_hash_check s l p) _ (page-silent p k))

      last-key-again : part_at s (last_key_offset l p) l.key_length ≡ last_key_in list l p
      unfolding last_key_check
      last-key-again =
          same_bytes-eq _ _ (not-false _ (silent-test _ last_key p (first-right (first_from (order_check s l p) 0 (on_page l p)) (last_key_check s l p) rest-silent)))
          ∙ last-same s list l same-again p k

      slot-silent : (i : ℕ) → i < on_page l p → order_check s l p i ≡ silent
      slot-silent i n =
          subst (λ j. order_check s l p j ≡ silent) (zero-add i)
          (from_each (order_check s l p) 0 (on_page l p) (first-left (first_from (order_check s l p) 0 (on_page l p)) (last_key_check s l p) rest-silent) i n)

      page-again : page_in list l p ≡ page_of s p
      unfolding page_in entry_at
      page-again =
          let whole : on_page l p * entry_size l + (page_size - on_page l p * entry_size l) ≡ page_size = omega (arith, on-page-fits l p) in
          ap₂ ◌++◌ (sym (entries-again p k)) (ap (λ n. replicate (page_size - n * entry_size l) 0) (sym (on-page-placed l p)) ∙ sym padding-again)
          ∙ sym (part-add s (page_offset p) (on_page l p * entry_size l) (page_size - on_page l p * entry_size l)) ∙ ap (part_at s (page_offset p)) whole

    -- the keys of the list rise
    at_slot : (p i : ℕ) → p < l.pages → i < on_page l p → 1 ≤ placed_number l p i
        → is_below (compared (key_of list l (placed_number l p i - 1)) (key_of list l (placed_number l p i))) ≡ true
    unfolding order_check
    at_slot p i k n m =
        not-false _ (sym (slot-order s list l same-again p i k n m) ∙ silent-test _ index_order (entry_number l p i) (slot-silent p k i n))

    pub rises-again : (g : ℕ) → 1 ≤ g → g < l.entries → is_below (compared (key_of list l (g - 1)) (key_of list l g)) ≡ true
    unfolding placed_on
    rises-again g h k =
        let low : 1 ≤ full l = full-positive s o in
        let slot : g / full l * full l + g % full l ≡ g = div-add-mod' g (full l) in
        let below : g % full l < full l = mod-lt g low in
        let page : g / full l < l.pages = fewer (g / full l) l.pages (full l) (omega (arith, slot, k, entries-held s o)) in
        subst (λ n. is_below (compared (key_of list l (n - 1)) (key_of list l n)) ≡ true) slot
        (at_slot (g / full l) (g % full l) page (rw (on-page-placed l (g / full l)) (omega (arith, below, slot, k))) (omega (arith, slot, h)))

    -- the parts before the footer
    pages-again : pages list l ≡ part_at s 0 (last_key_offset l 0)
    unfolding pages
    pages-again =
        parts_same (page_in list l) (page_of s) 0 l.pages (λ p a b. page-again p (omega arith)) ∙ parts-of s page_size 0 l.pages
        ∙ ap₂ (part_at s) (zero-mul page_size) (sym (keys-begin l))

    last-keys-again : last_keys list l ≡ part_at s (last_key_offset l 0) (l.pages * l.key_length)
    unfolding last_keys last_key_offset
    last-keys-again =
        parts_same (last_key_in list l) (λ p. part_at (drop (page_offset l.pages) s) (p * l.key_length) l.key_length) 0 l.pages
        (λ p a b. sym (last-key-again p (omega arith)) ∙ ap (take l.key_length) (sym (drop-drop (p * l.key_length) (page_offset l.pages) s)))
        ∙ parts-of (drop (page_offset l.pages) s) l.key_length 0 l.pages
        ∙ ap (take (l.pages * l.key_length)) (drop-drop (0 * l.key_length) (page_offset l.pages) s)

    hashes-again : page_hashes list l ≡ part_at s (page_hash_at l 0) (l.pages * hash_length)
    unfolding page_hashes page_hash_in page_hash_at
    hashes-again =
        parts_same (page_hash_in list l) (λ p. part_at (drop (last_key_offset l l.pages) s) (p * hash_length) hash_length) 0 l.pages
        (λ p a b. ap (λ m. take hash_length (md5 m)) (page-again p (omega arith)) ∙ hash-again p (omega arith)
        ∙ ap (take hash_length) (sym (drop-drop (p * hash_length) (last_key_offset l l.pages) s)))
        ∙ parts-of (drop (last_key_offset l l.pages) s) hash_length 0 l.pages
        ∙ ap (take (l.pages * hash_length)) (drop-drop (0 * hash_length) (last_key_offset l l.pages) s)

    pub contents-again : last_keys list l ++ page_hashes list l ≡ contents_of s l
    contents-again =
        let hashes : page_hash_at l 0 ≡ last_key_offset l 0 + l.pages * l.key_length = omega (arith, hashes-begin l, keys-begin l) in
        ap₂ ◌++◌ last-keys-again (hashes-again ∙ ap (λ n. part_at s n (l.pages * hash_length)) hashes)
        ∙ sym (part-add s (last_key_offset l 0) (l.pages * l.key_length) (l.pages * hash_length))
        ∙ ap (part_at s (last_key_offset l 0)) (sym (mul-add l.pages l.key_length hash_length) ∙ sym (contents-size l))

    front-again : pages list l ++ last_keys list l ++ page_hashes list l ≡ take (length s - footer_size) s
    front-again =
        let size : last_key_offset l 0 + (footer_at l - last_key_offset l 0) ≡ length s - footer_size = omega (arith, o.whole, index-ends l, footer-begins l) in
        append_assoc (pages list l) (last_keys list l) (page_hashes list l)
        ∙ ap₂ ◌++◌ pages-again (contents-again ∙ ap (λ n. part_at s n (footer_at l - last_key_offset l 0)) (sym (zero-add (last_key_offset l 0))))
        ∙ sym (part-add s 0 (last_key_offset l 0) (footer_at l - last_key_offset l 0)) ∙ ap (λ n. take n s) size

-- ---- the footer
-- a number's bytes are those that it was read from
little-again : (f : List ℕ) (at n : ℕ) → ((i : ℕ) → byte_at f i < 256) → little_bytes n (little_at f at n) ≡ bytes_from f at n
unfolding little_bytes little_at bytes_from
little-again f at zero h = refl
little-again f at (suc n) h =
    let low = h at in
    let first : (byte_at f at + 256 * little_at f (at + 1) n) % 256 ≡ byte_at f at = omega (arith, low) in
    let rest : (byte_at f at + 256 * little_at f (at + 1) n) / 256 ≡ little_at f (at + 1) n = omega (arith, low) in
    ap₂ (λ x y. x ∷ little_bytes n y) first rest ∙ ap (λ r. byte_at f at ∷ r) (little-again f (at + 1) n h)

module _ (f : List ℕ) (size : length f ≡ footer_size) (bytes : (i : ℕ) → byte_at f i < 256) (e : fields_check f ≡ silent) where
  exact : (at x number : ℕ) → field_check f at x x number ≡ silent → byte_at f at ≡ x
  exact at x number h =
      let r = field-range f at x x number h in
      omega (arith, r.0, r.1)

  version_low : version f ≤ most_version
  version_low = (field-range f version_at least_version most_version _ (first-left _ _ e)).1

  -- the fields are those of the layout
  fields-again : part_at f version_at (footer_hash_at - version_at) ≡ fields (layout_from f)
  unfolding fields layout_from bytes_from
  fields-again =
      let from-reserved = first-right _ _ e in
      let from-second-reserved = first-right _ _ from-reserved in
      let from-page-size = first-right _ _ from-second-reserved in
      let from-offset-width = first-right _ _ from-page-size in
      let from-size-width = first-right _ _ from-offset-width in
      let from-key-length = first-right _ _ from-size-width in
      let hash-length-silent = first-right _ _ from-key-length in
      part_bytes f version_at (footer_hash_at - version_at) (omega (arith, size))
      ∙ ap₂ ◌∷◌ refl (ap₂ ◌∷◌ (exact reserved_at 0 _ (first-left _ _ from-reserved))
      (ap₂ ◌∷◌ (exact (reserved_at + 1) 0 _ (first-left _ _ from-second-reserved))
      (ap₂ ◌∷◌ (exact page_kb_offset page_kb_value _ (first-left _ _ from-page-size))
      (ap₂ ◌∷◌ refl (ap₂ ◌∷◌ (exact size_width_at size_width _ (first-left _ _ from-size-width))
      (ap₂ ◌∷◌ refl (ap₂ ◌∷◌ (exact hash_length_at hash_length _ hash-length-silent) (sym (little-again f entry_count_at 4 bytes)))))))))

  footer-again : (contents : List ℕ) → footer_hash_check f ≡ silent → footer_with (layout_from f) contents ≡ take hash_length (md5 contents) ++ drop hash_length f
  unfolding footer_with hashed_fields
  footer-again contents h =
      let hash : take hash_length (md5 (hashed_footer f)) ≡ footer_hash_of f = same_bytes-eq _ _ (not-false _ (silent-test _ footer_hash 0 h)) in
      ap (λ r. take hash_length (md5 contents) ++ r)
      (ap₂ ◌++◌ (sym fields-again) (ap (λ r. take hash_length (md5 (r ++ replicate hash_length 0))) (sym fields-again) ∙ hash)
      ∙ sym (part-add f version_at (footer_hash_at - version_at) hash_length)
      ∙ take_all (footer_size - version_at) (drop hash_length f) (omega (arith, length-drop hash_length f, size)))

-- ---- the file
module _ (s : List ℕ) (bytes : (i : ℕ) → byte_at s i < 256) (e : full_check s ≡ silent) where
  opening-silent : opening s ≡ silent
  unfolding full_check
  opening-silent = first-left (opening s) (pages_check s (layout_of s)) e

  known : Opened s
  known = opened s opening-silent

  pages-silent : pages_check s (layout_of s) ≡ silent
  unfolding full_check
  pages-silent = first-right (opening s) (pages_check s (layout_of s)) e

  foot-silent : footer_check (footer s) ≡ silent
  foot-silent = first-right (short_check s) (footer_check (footer s)) (first-left (footer_reading s) (length_check s) opening-silent)

  foot-length : length (footer s) ≡ footer_size
  foot-length = length-drop (length s - footer_size) s ∙ omega (arith, known.long)

  foot-bytes : (i : ℕ) → byte_at (footer s) i < 256
  foot-bytes i = rw (get_or-drop (length s - footer_size) s i 0) (bytes (length s - footer_size + i))

  fields-silent : fields_check (footer s) ≡ silent
  fields-silent = first-left (fields_check (footer s)) _ foot-silent

  hash-silent : footer_hash_check (footer s) ≡ silent
  hash-silent = first-left (footer_hash_check (footer s)) _ (first-right (fields_check (footer s)) _ foot-silent)

  pub version-again : (layout_of s).version ≤ most_version
  unfolding layout_from
  version-again = version_low (footer s) foot-length foot-bytes fields-silent

  -- the file of the list is the index with another contents hash
  pub file-again : file_of (list_of s) (layout_of s) ≡ with_contents_hash s (contents_hash_of s)
  unfolding file_of
  file-again =
      let l : Layout = layout_of s in
      let at : ℕ = length s - footer_size in
      let eight : length (contents_hash_of s) ≡ hash_length = first-eight-length (contents_of s l) in
      let rest : drop hash_length (footer s) ≡ drop (at + length (contents_hash_of s)) s = drop-drop hash_length at s ∙ ap (λ n. drop (at + n) s) (sym eight) in
      ap₂ ◌++◌ (front-again s known pages-silent)
      (footer-again (footer s) foot-length foot-bytes fields-silent (last_keys (list_of s) l ++ page_hashes (list_of s) l) hash-silent
      ∙ ap₂ (λ c r. take hash_length (md5 c) ++ r) (contents-again s known pages-silent) rest)
      ∙ sym (append_assoc (take at s) (contents_hash_of s) (drop (at + length (contents_hash_of s)) s))
      ∙ sym (overlay-inside s at (contents_hash_of s) (omega (arith, eight, known.long)))

  -- and its settings and list are not refused
  entries-again-count : list_count (settings_of (layout_of s)) (list_of s) ≡ (layout_of s).entries
  unfolding list_count list_entry_size entry_size settings_of
  entries-again-count = ap (λ n. n / (entry_size (layout_of s))) (list_length s known) ∙ mul-div_cancel (layout_of s).entries (omega arith)

  pub layout-again : layout_for (settings_of (layout_of s)) (list_of s) ≡ layout_of s
  unfolding layout_for layout_from settings_of
  layout-again = ap (layout_with (layout_of s).version (layout_of s).offset_width (layout_of s).key_length) entries-again-count

  right-again : settings_right (settings_of (layout_of s)) ≡ true
  unfolding settings_right settings_of layout_from
  right-again =
      ap₂ ◌&&◌ (within-inside least_version most_version (layout_of s).version (omega arith) version-again)
      (ap₂ ◌&&◌ (within-inside least_offset_width most_offset_width (layout_of s).offset_width known.offset-low known.offset-high)
      (within-inside least_key_length most_key_length (layout_of s).key_length known.key-low known.key-high))

  whole_again : length (list_of s) % list_entry_size (settings_of (layout_of s)) ≡ 0
  unfolding list_entry_size entry_size settings_of
  whole_again = ap (λ n. n % (entry_size (layout_of s))) (list_length s known) ∙ mul-mod_left (layout_of s).entries (entry_size (layout_of s))

  entry-silent : (i : ℕ) → 1 ≤ i → i < (layout_of s).entries → list_order_check (settings_of (layout_of s)) (list_of s) i ≡ silent
  unfolding list_order_check key_in_list list_entry_size entry_size settings_of
  entry-silent i h k = quiet index_order i refl (ap not (rises-again s known pages-silent i h k))

  few-again : list_count (settings_of (layout_of s)) (list_of s) ≤ most_entries
  unfolding layout_from
  few-again = omega (arith, entries-again-count, known.count)

  pub write-silent : (room : ℕ) → length s ≤ room → write_check (settings_of (layout_of s)) (list_of s) room ≡ silent
  unfolding input_check
  write-silent room h =
      let fits : index_length_of (layout_for (settings_of (layout_of s)) (list_of s)) ≤ room = omega (arith, h, known.whole, ap index_length_of layout-again) in
      room-left (settings_of (layout_of s)) (list_of s) room
      (skip (quiet number.settings 0 refl (ap not right-again))
      (skip (quiet number.list_length 0 refl (ap not (eq-eqb _ 0 whole_again)))
      (skip (quiet number.entry_count 0 refl (le-ltb most_entries _ few-again))
      (from-silent (list_order_check (settings_of (layout_of s)) (list_of s)) 1 _ (λ i a b. entry-silent i a (omega (arith, b, entries-again-count)))))))
      fits
