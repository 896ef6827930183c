-- What the types of a header's fields allow: no place and no size leaves its range.
use mathlib.Core.Path.{◌≡◌, refl}
use Prim.Native.Nat.{ℕ, ◌+◌, ◌*◌, ◌^◌, ◌≤◌}
use native.Mathlib.Nat.{mul-le-mul}
use native.Mathlib.Omega.{arith}
use Rattle.encoding_header.specs.declared.Table.{Table}
use Rattle.encoding_header.specs.declared.Header.{Header}
use Rattle.encoding_header.specs.declared.Kind.{Kind}
use Rattle.encoding_header.specs.declared.Kind.TheVariants.{Content, Encoding}
use Rattle.encoding_header.specs.Header.{row_size, page_size, index_size, table_size, table_of, index_at, row_at, page_offset}

pub record Typed (t : Table) : Type 0 where
  pub key-most : t.key_size ≤ 255
  pub kb-most : t.page_kb ≤ 65535
  pub pages-most : t.pages ≤ 4294967295

pub record TypedHeader (h : Header) : Type 0 where
  pub content-typed : Typed h.content
  pub encoding-typed : Typed h.encoding
  pub spec-most : h.spec_size ≤ 4294967295

-- i index entries, and i pages
module _ {t : Table} (typed : Typed t) (i r : ℕ) (h : i ≤ 4294967295) where
  pub rows-most : r ≡ row_size t → i * r ≤ 4294967295 * (255 + 16)
  unfolding row_size
  rows-most e = mul-le-mul {m₂ = 255 + 16} h (omega arith)

  pub bytes_most : r ≡ page_size t → i * r ≤ 4294967295 * (65535 * 1024)
  unfolding page_size
  bytes_most e = mul-le-mul {m₂ = 65535 * 1024} h (omega arith)

pub index-most : {t : Table} (typed : Typed t) → index_size t ≤ 4294967295 * (255 + 16)
unfolding index_size
index-most {t} typed = rows-most typed t.pages (row_size t) typed.pages-most refl

pub size-most : {t : Table} (typed : Typed t) → table_size t ≤ 2 ^ 59
unfolding table_size
size-most {t} typed = omega (arith, index-most typed, bytes_most typed t.pages (page_size t) typed.pages-most refl)

pub table-typed : {h : Header} (typed : TypedHeader h) (kind : Kind) → Typed (table_of h kind)
unfolding table_of
table-typed typed Content = typed.content-typed
table-typed typed Encoding = typed.encoding-typed

pub index-at-most : {h : Header} (typed : TypedHeader h) (kind : Kind) → index_at h kind ≤ 2 ^ 60
unfolding index_at
index-at-most typed Content = omega (arith, typed.spec-most)
index-at-most typed Encoding = omega (arith, typed.spec-most, size-most typed.content-typed)

pub row-at-most : {h : Header} (typed : TypedHeader h) (kind : Kind) (i : ℕ) → i ≤ 4294967295 → row_at h kind i ≤ 2 ^ 61
unfolding row_at
row-at-most {h} typed kind i m =
    omega (arith, index-at-most typed kind, rows-most (table-typed typed kind) i (row_size (table_of h kind)) m refl)

-- a page, and its place
pub page-most : {h : Header} (typed : TypedHeader h) (kind : Kind) → page_size (table_of h kind) ≤ 65535 * 1024
unfolding page_size
page-most typed kind = omega (arith, (table-typed typed kind).kb-most)

pub page-at-most : {h : Header} (typed : TypedHeader h) (kind : Kind) (i : ℕ) → i ≤ 4294967295 → page_offset h kind i ≤ 2 ^ 61
unfolding page_offset
page-at-most {h} typed kind i m =
    omega (arith, index-at-most typed kind, index-most (table-typed typed kind), bytes_most (table-typed typed kind) i (page_size (table_of h kind)) m refl)
