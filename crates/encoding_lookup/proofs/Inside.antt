-- What a lookup tells stands inside the file, so that the part there is at the told place.
use mathlib.Core.Path.{◌≡◌, refl, ap}
use mathlib.Core.Bool.{Bool}
use mathlib.Core.List.{List}
use Prim.Native.Nat.{ℕ, zero, suc, ◌+◌, ◌≤◌, min}
use native.Mathlib.Omega.{arith}
use lib.ListN.{length}
use Rattle.parts.proofs.Laws.{by-test, part_at-length}
use Rattle.refusal.specs.Check.{Check, silent, refused}
use Rattle.refusal.specs.Outcome.{Outcome, after}
use Rattle.refusal.proofs.Laws.{first-left}
use Rattle.spec_table.specs.Specs.{place_of}
use Rattle.spec_table.proofs.Table.{start-inside}
use Rattle.encoding_header.specs.declared.Kind.{Kind}
use Rattle.encoding_header.specs.declared.Kind.TheVariants.{Content, Encoding}
use Rattle.encoding_header.specs.declared.Header.{Header}
use Rattle.encoding_header.specs.Header.{header_size, header_of, table_of, index_at, page_offset, page_end, end_of, spec_table, opening}
use Rattle.encoding_header.proofs.Laws.{whole, page-end}
use Rattle.encoding_page.specs.Entries.{entry_size, spec_number_at, over_end}
use Rattle.encoding_page.proofs.Laws.{searched-inside}
use Rattle.encoding_index.specs.Chosen.{up_to, pages_up_to}
use Rattle.std.specs.Prelude.{Result, Ok, Err, Some, None}
use Rattle.encoding_lookup.specs.Lookup.{Seek, page_seek, seek_on, seek, lookup_check, seek_told, content_told, content_lookup, told_value}
use Rattle.encoding_lookup.specs.Lookup.{place_told, place_after, spec_string_at, encoding_told, encoding_lookup}
use Rattle.encoding_lookup.proofs.Laws.{nowhere-no-entry, over-no-entry}

-- ---- an entry that the search of the chosen page tells

up-to-most : (above : ℕ → Bool) (n : ℕ) → up_to above n ≤ n
unfolding up_to
up-to-most above zero = omega arith
up-to-most above (suc i) = by-test (above i) (λ t. rw t (omega (arith, up-to-most above i))) (λ t. rw t (omega arith))

module _ (s : List ℕ) (h : Header) (kind : Kind) where
  page-entry : (i : ℕ) (found : Result ℕ ℕ) (x : ℕ) → page_seek s h kind i found ≡ Ok (Some x) → found ≡ Ok x
  unfolding page_seek
  page-entry i (Ok at) x q = let same : at ≡ x = cc in ap Ok same
  page-entry i (Err end) x q =
      by-test (over_end s kind (page_end h kind i) end) (λ t. absurd (over-no-entry i x (rw t at q))) (λ t. absurd (nowhere-no-entry x (rw t at q)))

  module _ (sought : List ℕ) where
    on-page-inside : (pages x : ℕ) → pages ≤ (table_of h kind).pages → seek_on s h kind sought pages ≡ Ok (Some x) → x + entry_size s h kind x ≤ end_of h
    unfolding seek_on page_end
    on-page-inside zero x l q = absurd (nowhere-no-entry x q)
    on-page-inside (suc i) x l q =
        omega (arith, searched-inside s h kind (page_end h kind i) sought (page_offset h kind i) x (page-entry i _ x q), page-end h kind i l)

    pub seek-inside : (x : ℕ) → seek s h kind sought ≡ Ok (Some x) → x + entry_size s h kind x ≤ end_of h
    unfolding seek pages_up_to
    seek-inside x q = on-page-inside _ x (up-to-most _ _) q

-- ---- the place that a lookup tells

abbrev Inside : ℕ → Outcome → Type 0
Inside n told = place_told told ≤ n

seek-told-inside : (n : ℕ) (told : ℕ → Outcome) (v : Seek) → ((x : ℕ) → v ≡ Ok (Some x) → Inside n (told x)) → Inside n (seek_told told v)
unfolding told_value
seek-told-inside n told (Ok (Some x)) h = h x refl
seek-told-inside n told (Ok None) h = omega arith
seek-told-inside n told (Err r) h = omega arith

after-inside : (n : ℕ) (k : Check) (told : Outcome) → (k ≡ silent → Inside n told) → Inside n (after k told)
unfolding after told_value
after-inside n silent told h = h refl
after-inside n (refused number place) told h = omega arith

module _ (s key : List ℕ) where
  opened : (kind : Kind) → lookup_check s kind key ≡ silent → opening s ≡ silent
  opened kind e = first-left (opening s) _ e

  pub content-inside : place_told (content_lookup s key) ≤ length s
  unfolding entry_size told_value
  content-inside =
      let h : Header = header_of s in
      after-inside (length s) (lookup_check s Content key) _
      (λ k. seek-told-inside (length s) (content_told s h) (seek s h Content key)
      (λ x v. omega (arith, seek-inside s h Content key x v, (whole s (opened Content k)).inside)))

  pub encoding-inside : place_told (encoding_lookup s key) ≤ length s
  unfolding end_of index_at told_value
  encoding-inside =
      let h : Header = header_of s in
      after-inside (length s) (lookup_check s Encoding key) _
      (λ k. seek-told-inside (length s) (encoding_told s h) (seek s h Encoding key)
      (λ x v. after-inside (length s) _ _
      (λ quiet.
      let table = part_at-length s header_size h.spec_size in
      omega (arith, start-inside (spec_table s h) (spec_number_at s h x), table, (whole s (opened Encoding k)).inside))))

-- ---- the place of the string with a number

module _ (s : List ℕ) (n : ℕ) where
  pub spec-place : opening s ≡ silent → (table : List ℕ) → table ≡ spec_table s (header_of s)
      → min header_size (length s) + place_of table n ≡ spec_string_at s n
  unfolding spec_string_at place_after end_of index_at
  spec-place begun table t =
      let is = ap (λ k. place_after k (header_size + place_of (spec_table s (header_of s)) n)) begun in
      omega (arith, is, ap (λ u. place_of u n) t, (whole s begun).inside)

  pub spec-nowhere : {number place : ℕ} → opening s ≡ refused number place → spec_string_at s n ≡ 0
  unfolding spec_string_at place_after
  spec-nowhere e = ap (λ k. place_after k (header_size + place_of (spec_table s (header_of s)) n)) e
