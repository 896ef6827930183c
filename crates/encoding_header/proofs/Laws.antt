-- Laws of the header: what a file that passes 30 to 33 is known to be, and that its parts stand inside it.
use mathlib.Core.Path.{◌≡◌, ap, ◌∙◌}
use mathlib.Core.Bool.{Bool, true, not, ◌&&◌}
use mathlib.Core.List.{List}
use Prim.Native.Nat.{ℕ, ◌+◌, ◌-◌, ◌*◌, ◌≤◌, ◌<◌}
use native.Mathlib.Nat.{mul-le-mul_right, suc-mul}
use native.Mathlib.Omega.{arith}
use borrow.Author.Tests.{not-true, not-false, eqb-true, eqb-false, ltb-false}
use lib.Dec.{eqb, ltb}
use lib.ListN.{length}
use Rattle.parts.specs.Part.{byte_at}
use Rattle.parts.proofs.Laws.{both, part_at-inside, part_at-byte}
use Rattle.numbers.specs.Number.{within}
use Rattle.numbers.proofs.Laws.{within-range}
use Rattle.refusal.specs.declared.Refusal.{Refusal}
use Rattle.refusal.specs.Check.{Check, silent, refused}
use Rattle.refusal.specs.Number.{encoding_header, encoding_cut, spec_table_open, number_of}
use Rattle.refusal.specs.Outcome.{answered, after}
use Rattle.refusal.proofs.Laws.{silent-test, first-left, first-right, told-answer, told-refusal}
use Rattle.encoding_header.specs.declared.Kind.{Kind}
use Rattle.encoding_header.specs.declared.Kind.TheVariants.{Content, Encoding}
use Rattle.encoding_header.specs.declared.Table.{Table}
use Rattle.encoding_header.specs.declared.Header.{Header}
use Rattle.std.specs.Prelude.{Result, Ok, Err}
use Rattle.encoding_header.specs.Header.{header_size, version_at, flags_at, version, least_key_size, most_key_size, flags, hash_size, header_of, table_of}
use Rattle.encoding_header.specs.Header.{row_size, page_size, index_size, table_size, index_at, row_at, page_offset, end_of, spec_table, first_key_at, page_hash}
use Rattle.encoding_header.specs.Header.{page_of, magic_check, table_right, header_right, header_check, cut_check, opening, table_values, header_values}
use Rattle.encoding_header.specs.Header.{outcome}

-- a test that holds, before others
pub met : {p q r : Bool} → p ≡ true → q ≡ r → (p && q) ≡ r
met {q = q} e h = ap (λ p. p && q) e ∙ h

-- ---- what opening answers

-- a header is its values
pub values_one : (h m : Header) → header_values h ≡ header_values m → h ≡ m
unfolding header_values table_values
values_one h m e =
    let n : h.spec_size ≡ m.spec_size = cc in
    let ck : h.content.key_size ≡ m.content.key_size = cc in
    let cb : h.content.page_kb ≡ m.content.page_kb = cc in
    let cp : h.content.pages ≡ m.content.pages = cc in
    let ek : h.encoding.key_size ≡ m.encoding.key_size = cc in
    let eb : h.encoding.page_kb ≡ m.encoding.page_kb = cc in
    let ep : h.encoding.pages ≡ m.encoding.pages = cc in
    λ i. record {
      content = record { key_size = ck i; page_kb = cb i; pages = cp i };
      encoding = record { key_size = ek i; page_kb = eb i; pages = ep i };
      spec_size = n i;
    }

-- a passed file: the check was silent, and the header is the file's
pub passed-header : (k : Check) (h m : Header) (v : Result Header Refusal) → outcome v ≡ after k (answered (header_values m))
    → v ≡ Ok h → (k ≡ silent) × (h ≡ m)
passed-header k h m v e g = let a = told-answer header_values k (header_values m) v e g in (a.0, values_one h m a.1)

pub refused-header : (k : Check) (m : Header) (v : Result Header Refusal) {r : Refusal} → outcome v ≡ after k (answered (header_values m)) → v ≡ Err r
    → k ≡ refused (number_of r.reason) r.place
refused-header k m v e g = told-refusal header_values k (header_values m) v e g

-- ---- what a file that passes is known to be

-- The fields of one kind lie in their ranges.
pub record Ranged (t : Table) : Type 0 where
  pub key-least : least_key_size ≤ t.key_size
  pub key-most : t.key_size ≤ most_key_size
  pub kb-some : 0 < t.page_kb
  pub pages-some : 0 < t.pages

-- So do all fields, the parts stand inside the file, and the last spec is closed.
pub record Whole (s : List ℕ) : Type 0 where
  pub content-ranged : Ranged (header_of s).content
  pub encoding-ranged : Ranged (header_of s).encoding
  pub spec-some : 0 < (header_of s).spec_size
  pub inside : end_of (header_of s) ≤ length s
  pub closed : byte_at s (index_at (header_of s) Content - 1) ≡ 0

some : (n : ℕ) → not (eqb n 0) ≡ true → 0 < n
some n e = omega (arith, eqb-false n 0 (not-true _ e))

pub ranged : (t : Table) → table_right t ≡ true → Ranged t
unfolding table_right
ranged t e =
    let a = both (within t.key_size least_key_size most_key_size) _ e in
    let b = both (not (eqb t.page_kb 0)) (not (eqb t.pages 0)) a.1 in
    let k = within-range least_key_size most_key_size t.key_size a.0 in
    record { key-least = k.0; key-most = k.1; kb-some = some t.page_kb b.0; pages-some = some t.pages b.1 }

pub whole : (s : List ℕ) → opening s ≡ silent → Whole s
unfolding header_right
whole s e =
    let h : Header = header_of s in
    let a = first-right (magic_check s) _ e in
    let b = first-right (header_check s) _ a in
    let right = not-false _ (silent-test (not (header_right s h)) encoding_header 0 (first-left (header_check s) _ a)) in
    let fields = both (eqb (byte_at s version_at) version) _ right in
    let content = both (table_right h.content) _ fields.1 in
    let encoding = both (table_right h.encoding) _ content.1 in
    let rest = both (eqb (byte_at s flags_at) flags) _ encoding.1 in
    record {
      content-ranged = ranged h.content content.0;
      encoding-ranged = ranged h.encoding encoding.0;
      spec-some = some h.spec_size rest.1;
      inside = ltb-false (length s) (end_of h) (silent-test (ltb (length s) (end_of h)) encoding_cut 0 (first-left (cut_check s) _ b));
      closed = eqb-true _ 0 (not-false _ (silent-test (not (eqb (byte_at s (index_at h Content - 1)) 0)) spec_table_open 0 (first-right (cut_check s) _ b)));
    }

pub kind-ranged : {s : List ℕ} → Whole s → (kind : Kind) → Ranged (table_of (header_of s) kind)
unfolding table_of
kind-ranged w Content = w.content-ranged
kind-ranged w Encoding = w.encoding-ranged

-- ---- the parts stand inside the file

-- one of p things of n bytes ends where all of them do, or before
one_of : (i p n : ℕ) → i < p → i * n + n ≤ p * n
one_of i p n l = omega (arith, suc-mul i n, mul-le-mul_right n l)

-- a kind's index and pages
table-end : (h : Header) (kind : Kind) → index_at h kind + table_size (table_of h kind) ≤ end_of h
unfolding index_at table_of end_of
table-end h Content = omega arith
table-end h Encoding = omega arith

-- the index entry of page i, and the page
module _ (h : Header) (kind : Kind) (i : ℕ) (l : i < (table_of h kind).pages) where
  pub row-end : row_at h kind i + row_size (table_of h kind) ≤ end_of h
  unfolding row_at table_size index_size
  row-end = omega (arith, table-end h kind, one_of i (table_of h kind).pages (row_size (table_of h kind)) l)

  pub page-end : page_offset h kind i + page_size (table_of h kind) ≤ end_of h
  unfolding page_offset table_size
  page-end = omega (arith, table-end h kind, one_of i (table_of h kind).pages (page_size (table_of h kind)) l)

  module _ (s : List ℕ) (w : end_of h ≤ length s) where
    pub first-key-length : length (first_key_at s h kind i) ≡ (table_of h kind).key_size
    unfolding first_key_at row_size
    first-key-length = part_at-inside s (row_at h kind i) (table_of h kind).key_size (omega (arith, row-end))

    pub page-hash-length : length (page_hash s h kind i) ≡ hash_size
    unfolding page_hash row_size
    page-hash-length = part_at-inside s (row_at h kind i + (table_of h kind).key_size) hash_size (omega (arith, row-end))

    pub page-length : length (page_of s h kind i) ≡ page_size (table_of h kind)
    unfolding page_of
    page-length = part_at-inside s (page_offset h kind i) (page_size (table_of h kind)) (omega (arith, page-end))

-- the spec table
pub spec-end : (h : Header) → header_size + h.spec_size ≤ end_of h
unfolding end_of index_at
spec-end h = omega arith

pub spec-length : (s : List ℕ) (h : Header) → end_of h ≤ length s → length (spec_table s h) ≡ h.spec_size
spec-length s h w = part_at-inside s header_size h.spec_size (omega (arith, spec-end h))

-- its last byte is 0
pub spec-closed : {s : List ℕ} → Whole s → byte_at (spec_table s (header_of s)) ((header_of s).spec_size - 1) ≡ 0
unfolding index_at
spec-closed {s} w =
    let size : ℕ = (header_of s).spec_size in
    let last : header_size + (size - 1) ≡ header_size + size - 1 = omega (arith, w.spec-some) in
    part_at-byte s header_size size (size - 1) (omega (arith, w.spec-some)) ∙ ap (byte_at s) last ∙ w.closed
