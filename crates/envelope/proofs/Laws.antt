-- Laws of an envelope whose chunks fill the file: where each stands, and how long the content is.
use mathlib.Core.Path.{◌≡◌, refl, sym, ap, ap₂, ◌∙◌}
use mathlib.Core.Bool.{Bool, true, false, not, ◌&&◌, cond}
use mathlib.Core.List.{List}
use Prim.Native.Nat.{ℕ, zero, suc, ◌+◌, ◌-◌, ◌*◌, ◌^◌, ◌≤◌, ◌<◌}
use native.Mathlib.Nat.{zero-add, sub-zero}
use native.Mathlib.Numerals.{add-one}
use native.Mathlib.Omega.{arith}
use lib.Dec.{ltb, eqb}
use lib.ListN.{length, take, length-append, length-take}
use borrow.Author.Tests.{eqb-true, eqb-false, not-false, lt-ltb, le-ltb}
use Rattle.parts.specs.Part.{byte_at, part_at, same_bytes, parts_from}
use Rattle.parts.proofs.Laws.{part_at-length, part_at-inside}
use Rattle.numbers.proofs.Laws.{big_at-below}
use Rattle.md5_digest.specs.Message.{md5, limited}
use Rattle.std.specs.Prelude.{Result, Err}
use Rattle.refusal.specs.declared.Refusal.{Refusal}
use Rattle.refusal.specs.Check.{Check, silent, refused, refused_if, first, first_from, check_of}
use Rattle.refusal.specs.Number.{chunk_sizes, chunk_hash, decoded_size, hash_limit}
use Rattle.refusal.proofs.Laws.{quiet, silent-test, first-left, first-right, from_each, upto-said, upto-quiet, upto-end, refused-is}
use Rattle.envelope_header.specs.declared.Header.{Header}
use Rattle.envelope_header.specs.Header.{header_of, table_at, row_size, short_size, tabled, chunk_count, header_length, row_at, encoded_size, decoded_size_at}
use Rattle.envelope_header.specs.Header.{chunk_hash_at, chunk_at, empty_check, sum_check, magic_check, header_check, sizes_check, opening}
use Rattle.envelope_header.proofs.Laws.{chunk-after, chunk-upto}
use Rattle.envelope.specs.Envelope.{chunk_of, size_or_none, content_of, content_by, hash_check, mode_check, decoded_check, chunk_check, chunks_check}
use Rattle.envelope.specs.Envelope.{keyed, limit_check, envelope_key_check, content_check}

module _ (s : List ℕ) (h : Header) (e : sizes_check s h ≡ silent) where
  pub whole : chunk_at s h (chunk_count h) ≡ length s
  unfolding sizes_check
  whole = eqb-true _ _ (not-false _ (silent-test _ chunk_sizes 0 (first-right (first_from (empty_check s h) 0 (chunk_count h)) (sum_check s h) e)))

  pub not-empty : (i : ℕ) → i < chunk_count h → 1 ≤ encoded_size s h i
  unfolding sizes_check empty_check
  not-empty i l =
      let each = first-left (first_from (empty_check s h) 0 (chunk_count h)) (sum_check s h) e in
      let one = simp zero-add at (from_each (empty_check s h) 0 (chunk_count h) each i l) in
      positive (encoded_size s h i) (eqb-false _ 0 (silent-test _ chunk_sizes 0 one))
    where
      positive : (n : ℕ) → (n ≡ 0 → ⊥) → 1 ≤ n
      positive zero ne = absurd (ne refl)
      positive (suc n) ne = omega arith

  pub inside : (i : ℕ) → i < chunk_count h → chunk_at s h i + encoded_size s h i ≤ length s
  inside i l = omega (arith, whole, chunk-after s h i, chunk-upto s h (i + 1) (chunk_count h) (omega arith))

  pub content-length : (i : ℕ) → i < chunk_count h → length (content_of s h i) ≡ encoded_size s h i - 1
  content-length i l = part_at-inside s (chunk_at s h i + 1) (encoded_size s h i - 1) (omega (arith, inside i l, not-empty i l))

  -- a mode byte less for each chunk
  contents-length : (i n : ℕ) → i + n ≤ chunk_count h → length (parts_from (content_of s h) i n) + n + chunk_at s h i ≡ chunk_at s h (i + n)
  unfolding parts_from
  contents-length i zero l =
      let same : i + 0 ≡ i = omega arith in
      rw same (omega arith)
  contents-length i (suc n) l =
      let next : suc i + n ≡ i + suc n = omega arith in
      let after : chunk_at s h (suc i) ≡ chunk_at s h i + encoded_size s h i = ap (chunk_at s h) (sym (add-one i)) ∙ chunk-after s h i in
      let joined = length-append (content_of s h i) (parts_from (content_of s h) (suc i) n) in
      let others = contents-length (suc i) n (omega arith) in
      omega (arith, joined, content-length i (omega arith), not-empty i (omega arith), others, after, ap (chunk_at s h) next)

  pub content-whole : length (content_by s h) + chunk_count h + header_length h ≡ length s
  unfolding content_by chunk_at
  content-whole = contents-length 0 (chunk_count h) (omega arith) ∙ ap (chunk_at s h) (zero-add (chunk_count h)) ∙ whole

-- ---- chunk after chunk

-- The chunks before i were silent, and chunk i stands here.
pub record Judged (s : List ℕ) (h : Header) (i at : ℕ) : Type 0 where
  pub inside : i ≤ chunk_count h
  pub place : at ≡ chunk_at s h i
  pub rest : chunks_check s h ≡ first_from (chunk_check s h) i (chunk_count h - i)

pub judged-none : (s : List ℕ) (h : Header) (at : ℕ) → at ≡ header_length h → Judged s h 0 at
unfolding chunk_at chunks_check
judged-none s h at e = record { inside = omega arith; place = e; rest = rw sub-zero }

module _ {s : List ℕ} {h : Header} {i at : ℕ} (j : Judged s h i at) where
  pub judged-said : {number place : ℕ} → i < chunk_count h → chunk_check s h i ≡ refused number place → chunks_check s h ≡ refused number place
  judged-said l e = j.rest ∙ upto-said (chunk_check s h) i (chunk_count h) l e

  pub judged-next : (size : ℕ) → i < chunk_count h → size ≡ encoded_size s h i → chunk_check s h i ≡ silent → Judged s h (i + 1) (at + size)
  judged-next size l z e = record {
    inside = omega arith;
    place = ap₂ ◌+◌ j.place z ∙ sym (chunk-after s h i);
    rest = j.rest ∙ upto-quiet (chunk_check s h) i (chunk_count h) l e;
  }

  pub judged-all : chunk_count h ≤ i → chunks_check s h ≡ silent
  judged-all l = j.rest ∙ upto-end (chunk_check s h) i (chunk_count h) l

-- a chunk ends within the file
pub judged-ends : {s : List ℕ} {h : Header} {i at : ℕ} → sizes_check s h ≡ silent → Judged s h i at → (size : ℕ) → i < chunk_count h → size ≡ encoded_size s h i
    → at + size ≤ length s
judged-ends {s} {h} {i} e j size l z = omega (arith, inside s h e i l, j.place, z)

pub size-there : (s : List ℕ) (h : Header) (i r : ℕ) → i < chunk_count h → r ≡ size_or_none s h i → r ≡ encoded_size s h i
size-there s h i r l e = e ∙ ap (λ b. cond b (encoded_size s h i) 0) (lt-ltb i (chunk_count h) l)

-- a chunk of a table has its hash, and is short enough to be hashed
pub chunk-hashed : (s : List ℕ) (h : Header) (i at size : ℕ) (part bytes : List ℕ)
    → at ≡ chunk_at s h i → size ≡ encoded_size s h i → part ≡ part_at s at size → bytes ≡ md5 part → bytes ≡ md5 (chunk_of s h i)
chunk-hashed s h i at size part bytes p q e d = d ∙ ap md5 (e ∙ ap₂ (part_at s) p q)

pub chunk-short : (s : List ℕ) (h : Header) (i at size : ℕ) (part : List ℕ) → ((k : ℕ) → byte_at s k < 256) → tabled h ≡ true
    → size ≡ encoded_size s h i → part ≡ part_at s at size → limited (length part) ≡ silent
unfolding encoded_size
chunk-short s h i at size part fits table q e =
    let small : encoded_size s h i < 256 ^ 4 = rw table (big_at-below s fits (row_at i) 4) in
    quiet hash_limit 0 refl (le-ltb (2 ^ 48) (length part) (omega (arith, ap length e, part_at-length s at size, small)))

-- so that hashing it is not refused
pub answered-hash : {T : Type 0} {k : Check} (v : Result T Refusal) {r : Refusal} → check_of v ≡ k → k ≡ silent → v ≡ Err r → ⊥
answered-hash v e short g = no-refusal (sym (refused-is v _ e g) ∙ short)
  where
    no-refusal : {number place : ℕ} → refused number place ≡ silent → ⊥
    no-refusal q = let z : ◌≡◌ {A = ℕ} 0 1 = cc in omega arith

-- one chunk without a table has a mode only
module _ (s : List ℕ) (h : Header) (none : tabled h ≡ false) where
  hash-none : hash_check s h 0 ≡ silent
  unfolding refused_if
  hash-none = ap (λ b. refused_if (b && not (same_bytes (md5 (chunk_of s h 0)) (chunk_hash_at s 0))) chunk_hash 0) none

  decoded-none : decoded_check s h 0 ≡ silent
  unfolding refused_if
  decoded-none = ap (λ b. refused_if (b && not (eqb (decoded_size_at s 0) (encoded_size s h 0 - 1))) decoded_size 0) none

  count_none : chunk_count h ≡ 1
  unfolding chunk_count
  count_none = ap (λ b. cond b h.rows 1) none

  pub single-chunk : mode_check s h 0 ≡ chunks_check s h
  unfolding chunks_check first_from first
  single-chunk =
      last (mode_check s h 0) ∙ ap (λ d. first (first (mode_check s h 0) d) silent) (sym decoded-none)
      ∙ ap (λ k. first (first k (first (mode_check s h 0) (decoded_check s h 0))) silent) (sym hash-none) ∙ ap (first_from (chunk_check s h) 0) (sym count_none)
    where
      last : (k : Check) → k ≡ first (first k silent) silent
      last silent = refl
      last (refused number place) = refl

-- ---- the key

-- a header is short enough to be hashed
pub limit-judged : (s : List ℕ) (h : Header) → h.rows < 2 ^ 32 → limited (length (keyed s h)) ≡ limit_check s h
unfolding keyed header_length refused_if
limit-judged s h few = by (tabled h)
  where
    by : (b : Bool) → refused_if (ltb (2 ^ 48) (length (cond b (take (cond b (table_at + row_size * h.rows) short_size) s) s))) hash_limit 0
        ≡ cond b silent (refused_if (ltb (2 ^ 48) (length s)) hash_limit 0)
    by true =
        let size = table_at + row_size * h.rows in
        quiet hash_limit 0 refl (le-ltb (2 ^ 48) (length (take size s)) (omega (arith, length-take size s)))
    by false = refl

-- ---- what is known of a file that is judged so far

pub opened-sizes : (s : List ℕ) (h : Header) → opening s ≡ silent → h ≡ header_of s → sizes_check s h ≡ silent
opened-sizes s h e g =
    let after-magic = first-right (magic_check s) (first (header_check s) (sizes_check s (header_of s))) e in
    ap (sizes_check s) g ∙ first-right (header_check s) (sizes_check s (header_of s)) after-magic

pub judged-sizes : (s key : List ℕ) (h : Header) → content_check s key ≡ silent → h ≡ header_of s → sizes_check s h ≡ silent
judged-sizes s key h e g = opened-sizes s h (first-left (opening s) (first (envelope_key_check s key) (chunks_check s (header_of s))) e) g
