-- What `envelope::open` and `envelope::content_length` judge, read from their check: where it is silent, all this holds.
use mathlib.Core.Path.{◌≡◌, refl, sym, ap, ap₂, ◌∙◌}
use mathlib.Core.Bool.{Bool, true, false, not, ◌&&◌}
use mathlib.Core.List.{List, [], ◌∷◌, ◌++◌}
use Prim.Native.Nat.{ℕ, zero, suc, ◌+◌, ◌-◌, ◌≤◌, ◌<◌}
use native.Mathlib.Nat.{zero-add, add-zero}
use native.Mathlib.Omega.{arith}
use lib.Dec.{eqb}
use lib.ListN.{length, take, drop, length-append, take-append-drop, drop_of_length-le}
use lib.Seq.{drop-cons, drop-drop}
use borrow.Author.Tests.{eqb-true, not-false}
use Rattle.parts.specs.Part.{byte_at, part_at, same_bytes, parts_from}
use Rattle.parts.proofs.Laws.{same_bytes-eq}
use Rattle.md5_digest.specs.Message.{md5}
use Rattle.refusal.specs.Check.{silent, refused_if, first}
use Rattle.refusal.specs.Number.{envelope_key, chunk_hash, chunk_mode, decoded_size}
use Rattle.refusal.proofs.Laws.{silent-test, first-left, first-right, from_each}
use Rattle.envelope_header.specs.declared.Header.{Header}
use Rattle.envelope_header.specs.Header.{header_of, tabled, chunk_count, header_length, encoded_size, decoded_size_at, chunk_hash_at, chunk_at, sizes_check, opening}
use Rattle.envelope.specs.Envelope.{chunk_of, plain_mode, mode_of, content_of, content_by, envelope_key_of, limit_check, envelope_key_check}
use Rattle.envelope.specs.Envelope.{hash_check, mode_check, decoded_check, chunk_check, chunks_check, content_check}
use Rattle.envelope.specs.Content.{plain_chunk, plain_chunks, joined, content_at, decoded_from, Opens, OpensTable}
use Rattle.envelope.proofs.Laws.{judged-sizes, whole, not-empty, inside, content-length}

-- ---- contents as a list

unfoldable pub contents_from : (ℕ → List ℕ) → (i n : ℕ) → List (List ℕ)
contents_from f i zero = []
contents_from f i (suc n) = f i ∷ contents_from f (suc i) n

-- The contents of an envelope's chunks.
unfoldable pub contents_of : List ℕ → List (List ℕ)
contents_of s = contents_from (content_of s (header_of s)) 0 (chunk_count (header_of s))

module _ (f : ℕ → List ℕ) where
  contents-count : (i n : ℕ) → length (contents_from f i n) ≡ n
  unfolding contents_from
  contents-count i zero = refl
  contents-count i (suc n) = ap suc (contents-count (suc i) n)

  contents-at : (i n k : ℕ) → k < n → content_at (contents_from f i n) k ≡ f (i + k)
  unfolding contents_from
  contents-at i zero k l = absurd (omega arith)
  contents-at i (suc n) zero l = ap f (sym (add-zero i))
  contents-at i (suc n) (suc k) l =
      let next : suc i + k ≡ i + suc k = omega arith in
      contents-at (suc i) n k (omega arith) ∙ ap f next

  contents-joined : (i n : ℕ) → joined (contents_from f i n) ≡ parts_from f i n
  unfolding contents_from joined parts_from
  contents-joined i zero = refl
  contents-joined i (suc n) = ap (λ r. f i ++ r) (contents-joined (suc i) n)

-- a part that begins with the mode byte
plain-part : (s : List ℕ) (at size : ℕ) → at + size ≤ length s → 1 ≤ size → byte_at s at ≡ plain_mode
    → part_at s at size ≡ plain_chunk (part_at s (at + 1) (size - 1))
plain-part s at zero inside some mode = absurd (omega arith)
plain-part s at (suc k) inside some mode =
    let less : k ≡ suc k - 1 = omega arith in
    let next : suc at ≡ at + 1 = omega arith in
    ap (take (suc k)) (drop-cons s at 0 (omega arith)) ∙ ap₂ ◌∷◌ mode (ap₂ (λ m r. take m (drop r s)) less next)

module _ (s key : List ℕ) (e : content_check s key ≡ silent) where
  abbrev h : Header
  h = header_of s

  after-opening : first (envelope_key_check s key) (chunks_check s h) ≡ silent
  after-opening = first-right (opening s) (first (envelope_key_check s key) (chunks_check s h)) e

  chunk-silent : (i : ℕ) → i < chunk_count h → chunk_check s h i ≡ silent
  unfolding chunks_check
  chunk-silent i l =
      let chunks = first-right (envelope_key_check s key) (chunks_check s h) after-opening in
      simp zero-add at (from_each (chunk_check s h) 0 (chunk_count h) chunks i l)

  rest-silent : (i : ℕ) → i < chunk_count h → first (mode_check s h i) (decoded_check s h i) ≡ silent
  rest-silent i l = first-right (hash_check s h i) (first (mode_check s h i) (decoded_check s h i)) (chunk-silent i l)

  key-same : envelope_key_of s ≡ key
  key-same =
      let keyed = first-left (envelope_key_check s key) (chunks_check s h) after-opening in
      let last = first-right (limit_check s h) (refused_if (not (same_bytes (envelope_key_of s) key)) envelope_key 0)
      (first-right (refused_if (not (eqb (length key) 16)) envelope_key 0) _ keyed) in
      same_bytes-eq (envelope_key_of s) key (not-false _ (silent-test (not (same_bytes (envelope_key_of s) key)) envelope_key 0 last))

  mode-right : (i : ℕ) → i < chunk_count h → mode_of s h i ≡ plain_mode
  mode-right i l =
      let mode = first-left (mode_check s h i) (decoded_check s h i) (rest-silent i l) in
      eqb-true _ _ (not-false _ (silent-test (not (eqb (mode_of s h i) plain_mode)) chunk_mode i mode))

  sizes : sizes_check s h ≡ silent
  sizes = judged-sizes s key h e refl

  chunk-plain : (i : ℕ) → i < chunk_count h → chunk_of s h i ≡ plain_chunk (content_of s h i)
  chunk-plain i l = plain-part s _ _ (inside s h sizes i l) (not-empty s h sizes i l) (mode-right i l)

  -- from chunk i on the file is the chunks
  chunks-from : (i n : ℕ) → i + n ≡ chunk_count h
      → drop (chunk_at s h i) s ≡ plain_chunks (contents_from (content_of s h) i n)
  unfolding contents_from plain_chunks chunk_at
  chunks-from i zero l =
      let end : i ≡ chunk_count h = omega arith in
      drop_of_length-le s {i = chunk_at s h i} (omega (arith, whole s h sizes, ap (chunk_at s h) end))
  chunks-from i (suc n) l =
      let size = encoded_size s h i in
      sym (take-append-drop size (drop (chunk_at s h i) s))
      ∙ ap₂ ◌++◌ (chunk-plain i (omega arith)) (drop-drop size (chunk_at s h i) s ∙ chunks-from (suc i) n (omega arith))

  content-is : (i : ℕ) → i < chunk_count h → content_at (contents_of s) i ≡ content_of s h i
  unfolding contents_of
  content-is i l = contents-at (content_of s h) 0 (chunk_count h) i l ∙ ap (content_of s h) (zero-add i)

  encoded-right : (i : ℕ) → i < chunk_count h → length (plain_chunk (content_at (contents_of s) i)) ≡ encoded_size s h i
  encoded-right i l =
      omega (arith, ap length (content-is i l), content-length s h sizes i l, not-empty s h sizes i l)

  pub opens : Opens s key (contents_of s)
  unfolding content_by contents_of chunk_at
  opens = record {
    key_right = key-same;
    count = contents-count (content_of s h) 0 (chunk_count h);
    encoded = encoded-right;
    file = sym (take-append-drop (header_length h) s)
        ∙ ap (λ r. take (header_length h) s ++ r) (chunks-from 0 (chunk_count h) (zero-add _));
    content_joined = sym (contents-joined (content_of s h) 0 (chunk_count h));
  }

  module _ (table : tabled h ≡ true) where
    of-table : (test : Bool) → (tabled h && not test) ≡ false → test ≡ true
    of-table test f = not-false test (ap (λ t. t && not test) (sym table) ∙ f)

    hash-right : (i : ℕ) → i < chunk_count h → md5 (chunk_of s h i) ≡ chunk_hash_at s i
    hash-right i l =
        let hash = first-left (hash_check s h i) (first (mode_check s h i) (decoded_check s h i)) (chunk-silent i l) in
        same_bytes-eq _ _ (of-table (same_bytes (md5 (chunk_of s h i)) (chunk_hash_at s i)) (silent-test _ chunk_hash i hash))

    size-right : (i : ℕ) → i < chunk_count h → decoded_size_at s i ≡ encoded_size s h i - 1
    size-right i l =
        let size = first-right (mode_check s h i) (decoded_check s h i) (rest-silent i l) in
        eqb-true _ _ (of-table (eqb (decoded_size_at s i) (encoded_size s h i - 1)) (silent-test _ decoded_size i size))

    sum-from : (i n : ℕ) → i + n ≤ chunk_count h → length (parts_from (content_of s h) i n) ≡ decoded_from s i n
    unfolding parts_from decoded_from
    sum-from i zero l = refl
    sum-from i (suc n) l =
        length-append (content_of s h i) (parts_from (content_of s h) (suc i) n)
        ∙ ap₂ ◌+◌ (content-length s h sizes i (omega arith) ∙ sym (size-right i (omega arith))) (sum-from (suc i) n (omega arith))

    pub opens-table : OpensTable s (contents_of s)
    unfolding contents_of
    opens-table = record {
      hash = λ i l. ap (λ c. md5 (plain_chunk c)) (content-is i l) ∙ ap md5 (sym (chunk-plain i l)) ∙ hash-right i l;
      decoded = λ i l. ap length (content-is i l) ∙ content-length s h sizes i l ∙ sym (size-right i l);
      sum = ap length (contents-joined (content_of s h) 0 (chunk_count h)) ∙ sum-from 0 (chunk_count h) (omega arith);
    }
