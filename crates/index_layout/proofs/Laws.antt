-- Laws of the layout.
use mathlib.Core.Path.{◌≡◌, refl}
use mathlib.Core.List.{List}
use Prim.Native.Nat.{ℕ, suc, ◌+◌, ◌-◌, ◌*◌, ◌/◌, ◌^◌, ◌≤◌, ◌<◌, min}
use native.Mathlib.Nat.{le_trans, mul-le-mul, mul-le-mul_left, mul-le-mul_right, div-mul-le_self}
use native.Mathlib.Nat.{div-add-mod', le-div_iff_mul-le, min-le_left, add-mul, mul-one, one-mul, suc-mul}
use native.Mathlib.Decide.{dec_lt}
use native.Mathlib.Omega.{arith}
use Rattle.parts.specs.Part.{part_at, byte_at}
use Rattle.parts.proofs.Laws.{part-of-part}
use Rattle.index_layout.specs.declared.Layout.{Layout}
use Rattle.numbers.specs.Number.{big_at}
use Rattle.numbers.proofs.Laws.{big_at-below}
use Rattle.index_layout.specs.Entries.{location_at, location_read, archive_of, offset_of}
use Rattle.index_layout.specs.Layout.{page_size, entry_size, full, placed_on, placed_number, on_page, entry_number, entry_at, key_at}

-- a product is at most that of the two bounds
pub bound : (a b m n : ℕ) → a ≤ m → b ≤ n → a * b ≤ m * n
bound a b m n h k = mul-le-mul h k

-- how many entries of 4 to 514 bytes 4,096 bytes hold
pub per-page : (d : ℕ) → 4 ≤ d → d ≤ 514 → (1 ≤ page_size / d) × (page_size / d ≤ 1024)
per-page d low high =
    let positive : 0 < d = omega arith in
    ((le-div_iff_mul-le positive).1 (omega arith), omega (arith, div-mul-le_self 4096 d, mul-le-mul_left (4096 / d) low))

-- n entries take at most n pages
pub pages-most : (n e : ℕ) → 1 ≤ e → (n + e - 1) / e ≤ n
pages-most n e h = go (dec_lt n ((n + e - 1) / e))
  where
    go : Dec (n < (n + e - 1) / e) → (n + e - 1) / e ≤ n
    go (yes more) = absurd (omega (arith, div-add-mod' (n + e - 1) e, mul-le-mul_right e more, add-mul n 1 e, one-mul e, mul-le-mul_left n h, mul-one n))
    go (no most) = omega arith

-- bounds of a layout
module _ (l : Layout) where
  pub size_low : 4 ≤ entry_size l
  unfolding entry_size
  size_low = omega arith

  pub full-fits : full l * entry_size l ≤ 4096
  unfolding full
  full-fits = div-mul-le_self 4096 (entry_size l)

  -- at most 1,024 entries on a page, since an entry has four bytes or more
  pub full-most : full l ≤ 1024
  full-most = omega (arith, full-fits, mul-le-mul_left (full l) size_low)

  -- ---- entries as they are placed
  pub placed-full : (p : ℕ) → placed_on l p ≤ full l
  unfolding placed_on
  placed-full p = min-le_left _ _

  pub placed-fits : (p : ℕ) → placed_on l p * entry_size l ≤ 4096
  placed-fits p = le_trans (mul-le-mul_right (entry_size l) (placed-full p)) full-fits

  pub placed-most : (p : ℕ) → placed_on l p ≤ 1024
  placed-most p = le_trans (placed-full p) full-most

  -- a page is full where the entries go on to the next
  pub placed-all : (p : ℕ) → p * full l + full l ≤ l.entries → placed_on l p ≡ full l
  unfolding placed_on
  placed-all p h = omega arith

  -- ---- entries as they are read: a file whose pages are full but the last has them where they are placed
  pub on-page-placed : (p : ℕ) → on_page l p ≡ placed_on l p
  unfolding on_page
  on-page-placed p = refl

  pub entry-number-placed : (p i : ℕ) → entry_number l p i ≡ placed_number l p i
  unfolding entry_number
  entry-number-placed p i = refl

  pub on-page-full : (p : ℕ) → on_page l p ≤ full l
  on-page-full p = rw (on-page-placed p) (placed-full p)

  pub on-page-fits : (p : ℕ) → on_page l p * entry_size l ≤ 4096
  on-page-fits p = le_trans (mul-le-mul_right (entry_size l) (on-page-full p)) full-fits

  pub on-page-most : (p : ℕ) → on_page l p ≤ 1024
  on-page-most p = le_trans (on-page-full p) full-most

pub key-within : (l : Layout) → l.key_length ≤ entry_size l
unfolding entry_size
key-within l = omega arith

-- the key of a slot, read from its page
pub page-key : (s : List ℕ) (l : Layout) (p i : ℕ) → i < on_page l p → part_at (part_at s (p * 4096) 4096) (i * entry_size l) l.key_length ≡ key_at s l p i
unfolding entry_at
page-key s l p i h =
    let most : suc i * entry_size l ≤ 4096 = le_trans (mul-le-mul_right (entry_size l) h) (on-page-fits l p) in
    part-of-part s (p * 4096) 4096 (i * entry_size l) l.key_length (omega (arith, most, suc-mul i (entry_size l), key-within l))

-- A location of six bytes is the archive number in the first two, then the offset in four.
module _ (s : List ℕ) (at : ℕ) (bytes : (i : ℕ) → byte_at s i < 256) where
  two-and-four : big_at s at 6 ≡ big_at s at 2 * 4294967296 + big_at s (at + 1 + 1) 4
  unfolding big_at
  two-and-four = omega arith

  pub archive-is : archive_of (big_at s at 6) ≡ big_at s at 2
  archive-is = rw two-and-four (omega (arith, big_at-below s bytes (at + 1 + 1) 4))

  pub offset-is : offset_of (big_at s at 6) ≡ big_at s (at + 2) 4
  offset-is =
      let two : at + 2 ≡ at + 1 + 1 = omega arith in
      rw (two, two-and-four) (omega (arith, big_at-below s bytes (at + 1 + 1) 4))

-- ---- an entry's size and location
pub entry-fits : (l : Layout) (p i at : ℕ) → at ≡ entry_at l p i → p < 2 ^ 32 → i < 2 ^ 32 → l.key_length < 256
    → l.offset_width < 256 → at + l.key_length + 4 < 2 ^ 64
unfolding entry_at entry_size
entry-fits l p i at e hp hi hk ho =
    let small : l.key_length + 4 + l.offset_width ≤ 514 = omega arith in
    let low : i ≤ 4294967295 = omega arith in
    omega (arith, mul-le-mul low small)

pub size_fits : (s : List ℕ) (at r : ℕ) → ((i : ℕ) → byte_at s i < 256) → r ≡ big_at s at 4 → r < 2 ^ 32
size_fits s at r bytes e = rw e (big_at-below s bytes at 4)

-- with W up to 8 the location is read whole
pub location-is : (s : List ℕ) (l : Layout) (p i r : ℕ) → l.offset_width ≤ 8 → r ≡ location_read s l p i → r ≡ location_at s l p i
unfolding location_read location_at
location-is s l p i r w h =
    let narrow : min l.offset_width 8 ≡ l.offset_width = omega arith in
    rw narrow at h
