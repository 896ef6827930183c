-- Laws of the output that pages and page hashes fill one by one.
use mathlib.Core.Path.{◌≡◌, refl, sym, ap, ap₂, ◌∙◌}
use mathlib.Core.List.{List, ◌∷◌, ◌++◌}
use Prim.Native.Nat.{ℕ, zero, suc, ◌+◌, ◌-◌, ◌*◌, ◌≤◌}
use native.Mathlib.Nat.{zero-mul, suc-mul, not-suc-le-zero, le_of_suc-le-suc}
use native.Mathlib.Omega.{arith}
use lib.ListN.{length, take, drop, replicate, length-append, length-replicate}
use lib.Seq.{take_at}
use Rattle.parts.specs.Part.{part_at, parts_from, overlay}
use Rattle.parts.proofs.Laws.{part_at-length, overlay-inside, overlay-after, overlay-before}
use Rattle.parts.proofs.Parts.{part-laid, parts-length}
use Rattle.index_layout.specs.declared.Layout.{Layout}
use Rattle.index_layout.specs.Layout.{page_size, hash_length, entry_size, placed_on, page_offset, entry_at, page_of}
use Rattle.index_layout.proofs.Laws.{key-within, placed-fits}
use Rattle.md5_digest.specs.Message.{md5}
use Rattle.index_footer.proofs.Laws.{first-eight-length}
use Rattle.index_file.specs.File.{entries_in, page_in, last_key_of}

take-zeros : (n m : ℕ) → n ≤ m → take n (replicate {A = ℕ} m 0) ≡ replicate n 0
take-zeros zero m h = refl
take-zeros (suc n) zero h = absurd (not-suc-le-zero h)
take-zeros (suc n) (suc m) h = ap (λ (r : List ℕ). 0 ∷ r) (take-zeros n m (le_of_suc-le-suc h))

-- a turn of the loop that writes a page: its entries, then zeros
pub page-laid : (list : List ℕ) (l : Layout) (p : ℕ) (entries zeros out old mid : List ℕ) (to rest : ℕ)
    → entries ≡ entries_in list l p → rest ≡ page_size - placed_on l p * entry_size l
    → zeros ≡ part_at (replicate page_size 0) 0 rest → to ≡ 0 + length (parts_from (page_in list l) 0 p) → old ≡ overlay out 0 (parts_from (page_in list l) 0 p)
    → mid ≡ overlay old to entries
    → (to + length entries + rest ≡ 0 + length (parts_from (page_in list l) 0 (p + 1)))
    × (overlay mid (to + length entries) zeros ≡ overlay out 0 (parts_from (page_in list l) 0 (p + 1)))
unfolding page_in
page-laid list l p entries zeros out old mid to rest e r z t g m =
    let clear : zeros ≡ replicate rest 0 = z ∙ take-zeros rest page_size (omega (arith, r)) in
    let page : entries ++ zeros ≡ page_in list l p = ap₂ ◌++◌ e (clear ∙ ap (λ n. replicate n 0) r) in
    let turn = part-laid (page_in list l) p (entries ++ zeros) out old 0 to page t g in (
      omega (arith, length-append entries zeros, turn.0, ap length clear, length-replicate {A = ℕ} rest 0),
      ap (λ o. overlay o (to + length entries) zeros) m ∙ overlay-after old to entries zeros ∙ turn.1,
    )

-- ---- a key by value
-- its bytes in front of zeros
pub key-front : (key : List ℕ) (m : ℕ) → length key ≤ m → part_at (overlay (replicate m 0) 0 key) 0 (length key) ≡ key
key-front key m h =
    ap (take (length key)) (overlay-inside (replicate m 0) 0 key (omega (arith, length-replicate {A = ℕ} m 0)))
    ∙ take_at key (drop (0 + length key) (replicate m 0)) (length key) refl

pub last-key-short : (s : List ℕ) (l : Layout) (p : ℕ) → l.key_length ≤ 255 → length (last_key_of s l p) ≤ 255
last-key-short s l p h = omega (arith, part_at-length s (entry_at l p (placed_on l p - 1)) l.key_length)

-- the last key is inside its page
last-slot-fits : (n size key : ℕ) → n * size ≤ page_size → key ≤ size → key ≤ page_size → (n - 1) * size + key ≤ page_size
last-slot-fits zero size key h k m = omega (arith, zero-mul size)
last-slot-fits (suc n) size key h k m =
    let back : suc n - 1 ≡ n = omega arith in
    rw back (omega (arith, suc-mul n size))

last-key-inside : (l : Layout) (p : ℕ) → l.key_length ≤ 255 → entry_at l p (placed_on l p - 1) + l.key_length ≤ page_offset p + page_size
unfolding entry_at
last-key-inside l p h =
    omega (arith, last-slot-fits (placed_on l p) (entry_size l) l.key_length (placed-fits l p) (key-within l) (omega arith))

-- a turn of the loop that puts last keys: those so far lie behind the pages, and change none of these
pub last-key-laid : (out : List ℕ) (l : Layout) (old key : List ℕ) (start to p : ℕ) → key ≡ last_key_of old l p → l.key_length ≤ 255
    → page_offset p + page_size ≤ start → to ≡ start + length (parts_from (last_key_of out l) 0 p) → old ≡ overlay out start (parts_from (last_key_of out l) 0 p)
    → (to + length key ≡ start + length (parts_from (last_key_of out l) 0 (p + 1)))
    × (overlay old to key ≡ overlay out start (parts_from (last_key_of out l) 0 (p + 1)))
last-key-laid out l old key start to p e h room t o =
    let at = entry_at l p (placed_on l p - 1) in
    part-laid (last_key_of out l) p key out old start to
    (e ∙ ap (λ s. last_key_of s l p) o ∙ overlay-before out start _ at l.key_length (omega (arith, room, last-key-inside l p h))) t o

-- the hashes of the pages so far lie behind the pages, and change none of these
module _ (out : List ℕ) (start : ℕ) where
  abbrev pub hashed : ℕ → List ℕ
  hashed p = overlay out start (parts_from (λ i. take hash_length (md5 (page_of out i))) 0 p)

  pub hash-laid : (seen old hash : List ℕ) (to p q : ℕ) → seen ≡ hashed q → hash ≡ take hash_length (md5 (page_of seen p)) → page_offset p + page_size ≤ start
      → old ≡ hashed p → to ≡ start + p * hash_length → overlay old to hash ≡ hashed (p + 1)
  hash-laid seen old hash to p q e h room o t =
      let so_far : length (parts_from (λ i. take hash_length (md5 (page_of out i))) 0 p) ≡ p * hash_length =
      parts-length _ hash_length 0 p (λ j a b. first-eight-length (page_of out j)) in
      (part-laid (λ i. take hash_length (md5 (page_of out i))) p hash out old start to
      (h ∙ ap (λ s. take hash_length (md5 s)) (ap (λ s. page_of s p) e ∙ overlay-before out start _ (page_offset p) page_size room))
      (t ∙ ap (λ n. start + n) (sym so_far)) o).1
