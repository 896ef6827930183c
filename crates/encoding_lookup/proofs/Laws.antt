-- Laws of the lookups.
use mathlib.Core.Path.{◌≡◌, refl, sym, ap, ap₂, ◌∙◌}
use mathlib.Core.Bool.{Bool, true, false, not, cond}
use mathlib.Core.List.{List, [], ◌∷◌}
use Prim.Native.Nat.{ℕ, zero, suc, ◌+◌, ◌-◌, ◌≤◌, ◌<◌}
use native.Mathlib.Decide.{dec_lt}
use native.Mathlib.Omega.{arith}
use lib.Dec.{ltb}
use lib.ListN.{length}
use borrow.Author.Tests.{lt-ltb, le-ltb, eq-eqb, ne_eqb}
use Rattle.parts.specs.Part.{part_at}
use Rattle.numbers.specs.Number.{big_at}
use Rattle.refusal.specs.Check.{Check, silent, refused}
use Rattle.refusal.specs.Number.{encoding_key_length, spec_number}
use Rattle.refusal.specs.Outcome.{Outcome, answered, refusal, after}
use Rattle.refusal.proofs.Laws.{said, quiet, skip, after-said, after-quiet}
use Rattle.spec_table.specs.Specs.{count_of, start_of, length_at}
use Rattle.spec_table.proofs.Table.{spec-closed, spec-past}
use Rattle.encoding_header.specs.declared.Kind.{Kind}
use Rattle.encoding_header.specs.declared.Table.{Table}
use Rattle.encoding_header.specs.declared.Header.{Header}
use Rattle.encoding_header.specs.Header.{header_size, header_of, table_of, page_offset, page_end, spec_table, opening, outcome}
use Rattle.encoding_header.proofs.Laws.{passed-header}
use Rattle.encoding_page.specs.Entries.{spec_number_at, walk_from, searched, over_end}
use Rattle.encoding_index.specs.Chosen.{pages_up_to}
use Rattle.std.specs.Prelude.{Result, Ok, Err, Some, None}
use Rattle.encoding_lookup.specs.Lookup.{Seek, over_page, page_seek, seek_on, seek, lookup_check, opened_for, seek_told, content_lookup, told_value}
use Rattle.encoding_lookup.specs.Lookup.{part_told, encoding_keys_of, spec_check, spec_at, spec_length, spec_told, encoding_told}

-- ---- 39

module _ (s : List ℕ) (kind : Kind) (key : List ℕ) (h : Header) (t : Table) (o : opening s ≡ silent) (m : h ≡ header_of s) (e : t ≡ table_of h kind) where
  size_is : t.key_size ≡ (table_of (header_of s) kind).key_size
  size_is = ap (λ (u : Table). u.key_size) e ∙ ap (λ k. (table_of k kind).key_size) m

  pub key-wrong : (length key ≡ t.key_size → ⊥) → lookup_check s kind key ≡ refused encoding_key_length 0
  key-wrong ne = skip o (said refl (rw (ne_eqb (length key) (table_of (header_of s) kind).key_size (λ q. ne (q ∙ sym size_is)))))

  pub key_right : length key ≡ t.key_size → lookup_check s kind key ≡ silent
  key_right q = skip o (quiet encoding_key_length 0 refl (rw (eq-eqb (length key) (table_of (header_of s) kind).key_size (q ∙ size_is))))

-- ---- the search

module _ (s : List ℕ) (h : Header) (kind : Kind) (key : List ℕ) (n : ℕ) (p : n ≡ pages_up_to s h kind key) where
  pub seek-none : n ≡ 0 → Ok None ≡ seek s h kind key
  unfolding seek seek_on
  seek-none z = sym (ap (seek_on s h kind key) (sym p ∙ z))

  on-page : (m : ℕ) → (m ≡ 0 → ⊥)
      → seek_on s h kind key m ≡ page_seek s h kind (m - 1) (searched s h kind key (walk_from s h kind (page_end h kind (m - 1)) (page_offset h kind (m - 1))))
  unfolding seek_on
  on-page zero some = absurd (some refl)
  on-page (suc i) some = let one : suc i - 1 ≡ i = omega arith in rw one

  module _ (some : n ≡ 0 → ⊥) (e from : ℕ) (q : e ≡ page_end h kind (n - 1)) (r : from ≡ page_offset h kind (n - 1)) (found : Result ℕ ℕ)
      (f : found ≡ searched s h kind key (walk_from s h kind e from)) where
    sought : seek s h kind key ≡ page_seek s h kind (n - 1) found
    unfolding seek
    sought =
        ap (seek_on s h kind key) (sym p) ∙ on-page n some
        ∙ ap (page_seek s h kind (n - 1)) (ap₂ (λ x y. searched s h kind key (walk_from s h kind x y)) (sym q) (sym r) ∙ sym f)

    pub seek-at : (at : ℕ) → found ≡ Ok at → Ok (Some at) ≡ seek s h kind key
    unfolding page_seek
    seek-at at g = sym (sought ∙ ap (page_seek s h kind (n - 1)) g)

    module _ (at : ℕ) (g : found ≡ Err at) (over : Bool) (o : over ≡ over_end s kind e at) where
      ended : seek s h kind key ≡ cond over (Err (over_page (n - 1))) (Ok None)
      unfolding page_seek
      ended = sought ∙ ap (page_seek s h kind (n - 1)) g ∙ ap (λ b. cond b (Err (over_page (n - 1))) (Ok None)) (ap (λ x. over_end s kind x at) (sym q) ∙ sym o)

      pub seek-over : over ≡ true → Err (over_page (n - 1)) ≡ seek s h kind key
      seek-over t = sym (ended ∙ ap (λ b. cond b (Err (over_page (n - 1))) (Ok None)) t)

      pub seek-nowhere : over ≡ false → Ok None ≡ seek s h kind key
      seek-nowhere t = sym (ended ∙ ap (λ b. cond b (Err (over_page (n - 1))) (Ok None)) t)

pub nowhere-no-entry : (at : ℕ) → ◌≡◌ {A = Seek} (Ok None) (Ok (Some at)) → ⊥
nowhere-no-entry at q = let z : ◌≡◌ {A = ℕ} 0 1 = cc in omega arith

pub over-no-entry : (page at : ℕ) → ◌≡◌ {A = Seek} (Err (over_page page)) (Ok (Some at)) → ⊥
over-no-entry page at q = let z : ◌≡◌ {A = ℕ} 0 1 = cc in omega arith

-- ---- what a lookup tells of a file that was opened for a key, by the end of the search

module _ (s : List ℕ) (kind : Kind) (key : List ℕ) (told : Header → ℕ → Outcome) where
  pub lookup-told : (h : Header) → outcome (Ok h) ≡ opened_for s kind key → (v : Seek) → v ≡ seek s h kind key
      → seek_told (told h) v ≡ after (lookup_check s kind key) (seek_told (told (header_of s)) (seek s (header_of s) kind key))
  lookup-told h o v f =
      let i = passed-header (lookup_check s kind key) h (header_of s) (Ok h) o refl in
      ap (seek_told (told h)) f ∙ ap (λ (m : Header). seek_told (told m) (seek s m kind key)) i.1 ∙ sym (after-quiet _ i.0)

-- ---- the run of encoding keys

pub run-told : (s key : List ℕ) (size keys at n : ℕ) → answered (size ∷ keys ∷ at ∷ n ∷ []) ≡ content_lookup s key → part_at s at n ≡ encoding_keys_of s key
unfolding told_value encoding_keys_of
run-told s key size keys at n e = ap (part_told s) e

-- ---- specs

-- a spec is there where it ends before the table does
module _ (s : List ℕ) (h : Header) (n : ℕ) (table : List ℕ) (at count : ℕ) (t : table ≡ spec_table s h) (p : at ≡ start_of table n)
    (q : count ≡ length_at table at) where
  end_is : at + count ≡ start_of table n + length_at table (start_of table n)
  end_is = omega (arith, p, q, ap (length_at table) p)

  known : Dec (n < count_of table) → length table ≤ at + count → ltb n (count_of table) ≡ false
  known (yes l) m = absurd (omega (arith, end_is, (spec-closed table n l).inside))
  known (no l) m = le-ltb n (count_of table) (omega arith)

  unknown : Dec (n < count_of table) → at + count < length table → ltb n (count_of table) ≡ true
  unknown (yes l) m = lt-ltb n (count_of table) l
  unknown (no l) m = absurd (omega (arith, end_is, spec-past table n (omega arith)))

  pub spec-refused : length table ≤ at + count → refusal spec_number 0 ≡ spec_told s h n
  spec-refused m =
      sym (after-said _ (said refl (ap (λ u. not (ltb n (count_of u))) (sym t) ∙ ap not (known (dec_lt n (count_of table)) m))))

  pub spec-found : at + count < length table → answered ((header_size + at) ∷ count ∷ []) ≡ spec_told s h n
  spec-found m =
      let a : at ≡ start_of (spec_table s h) n = p ∙ ap (λ u. start_of u n) t in
      let b : count ≡ length_at (spec_table s h) (start_of (spec_table s h) n) = q ∙ ap₂ length_at t a in
      ap₂ (λ x y. answered ((header_size + x) ∷ y ∷ [])) a b
      ∙ sym (after-quiet _ (quiet spec_number 0 refl (ap (λ u. not (ltb n (count_of u))) (sym t) ∙ ap not (unknown (dec_lt n (count_of table)) m))))

-- an entry's spec by its number
module _ (s : List ℕ) (h : Header) (at : ℕ) where
  numbered : (k : Check) (x y number size a n : ℕ) → answered (a ∷ n ∷ []) ≡ after k (answered (x ∷ y ∷ []))
      → answered (number ∷ size ∷ a ∷ n ∷ []) ≡ after k (answered (number ∷ size ∷ x ∷ y ∷ []))
  unfolding after
  numbered silent x y number size a n e =
      let p : a ≡ x = cc in
      let q : n ≡ y = cc in
      ap₂ (λ u v. answered (number ∷ size ∷ u ∷ v ∷ [])) p q
  numbered (refused m i) x y number size a n e = absurd (let z : ◌≡◌ {A = ℕ} 0 1 = cc in omega arith)

  past : (k : Check) (values others : List ℕ) (number place : ℕ) → refusal number place ≡ after k (answered values)
      → refusal number place ≡ after k (answered others)
  unfolding after
  past silent values others number place e = absurd (let z : ◌≡◌ {A = ℕ} 0 1 = cc in omega arith)
  past (refused m i) values others number place e = e

  module _ (number : ℕ) (m : number ≡ spec_number_at s h at) where
    pub encoding-refused : (n place : ℕ) → refusal n place ≡ spec_told s h number → refusal n place ≡ encoding_told s h at
    encoding-refused n place e = past (spec_check s h (spec_number_at s h at)) _ _ n place (rw m at e)

    pub encoding-found : (size a n : ℕ) → size ≡ big_at s (at + h.encoding.key_size + 4) 5 → answered (a ∷ n ∷ []) ≡ spec_told s h number
        → answered (number ∷ size ∷ a ∷ n ∷ []) ≡ encoding_told s h at
    encoding-found size a n z e =
        ap₂ (λ x y. answered (x ∷ y ∷ a ∷ n ∷ [])) m z
        ∙ numbered (spec_check s h (spec_number_at s h at)) (spec_at s h (spec_number_at s h at)) (spec_length s h (spec_number_at s h at))
        (spec_number_at s h at) _ a n (rw m at e)
