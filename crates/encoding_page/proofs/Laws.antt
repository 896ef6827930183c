-- Laws of a page's entries, one over both kinds.
use mathlib.Core.Path.{◌≡◌, refl, sym, ap, ◌∙◌}
use mathlib.Core.Bool.{Bool, true, false, ◌&&◌, ◌||◌, cond, false≢true}
use mathlib.Core.List.{List, [], ◌∷◌}
use Prim.Native.Nat.{ℕ, zero, suc, ◌+◌, ◌-◌, ◌≤◌, ◌<◌}
use native.Mathlib.Nat.{add-zero, le_refl}
use native.Mathlib.Omega.{arith}
use lib.Dec.{eqb}
use borrow.Author.Tests.{lt-ltb, le-ltb, ltb-false, eq-eqb, ne_eqb}
use Rattle.parts.specs.Part.{byte_at, part_at, same_bytes, all_zero}
use Rattle.parts.proofs.Laws.{by-test}
use Rattle.encoding_header.specs.declared.Kind.{Kind}
use Rattle.encoding_header.specs.declared.Kind.TheVariants.{Content, Encoding}
use Rattle.encoding_header.specs.declared.Header.{Header}
use Rattle.encoding_header.specs.Header.{table_of}
use Rattle.encoding_page.specs.declared.Span.{Span}
use Rattle.std.specs.Prelude.{Result, Ok, Err}
use Rattle.encoding_page.specs.Entries.{key_offset, size_of_key, entry_size, key_at, spec_number_at, no_spec_number, padding, ended, Walk, turn, walk_by, walk_from}
use Rattle.encoding_page.specs.Entries.{head_or, next_entry, rises_to, rising, last_key_before, all, spec_known, starts_with, search_in, searched}
use Rattle.encoding_page.specs.Entries.{span_of, key_span, last_span}

-- ---- tests

or_left : (p q : Bool) → p ≡ true → (p || q) ≡ true
or_left p q e = rw e

or-false : (p q : Bool) → (p || q) ≡ false → p ≡ false
or-false true q e = e
or-false false q e = refl

kinds-differ : Content ≡ Encoding → ⊥
kinds-differ p = let z : ◌≡◌ {A = ℕ} 0 1 = cc in omega arith

-- ---- an entry

module _ (s : List ℕ) (h : Header) where
  pub size-some : (kind : Kind) (at : ℕ) → 1 ≤ entry_size s h kind at
  unfolding entry_size
  size-some Content at = omega arith
  size-some Encoding at = omega arith

  pub key-inside : (kind : Kind) (at : ℕ) → key_offset kind + size_of_key h kind ≤ entry_size s h kind at
  unfolding entry_size key_offset table_of
  key-inside Content at = omega arith
  key-inside Encoding at = omega arith

  -- fewer bytes are left than the entry has
  pub over-ended : (kind : Kind) (e at : ℕ) → e - at < entry_size s h kind at → ended s h kind e at ≡ true
  unfolding ended
  over-ended Content e at l = or_left _ _ (lt-ltb _ _ l)
  over-ended Encoding e at l = lt-ltb _ _ l

  pub entry-left : (kind : Kind) (e at : ℕ) → ended s h kind e at ≡ false → entry_size s h kind at ≤ e - at
  unfolding ended
  entry-left Content e at g = ltb-false _ _ (or-false _ _ g)
  entry-left Encoding e at g = ltb-false _ _ g

  -- an entry ends within its page
  pub entry-inside : (kind : Kind) (e at : ℕ) → ended s h kind e at ≡ false → at + entry_size s h kind at ≤ e
  entry-inside kind e at g = omega (arith, size-some kind at, entry-left kind e at g)

  -- the test that is left where enough bytes are left
  pub content-ended : (kind : Kind) (e at count : ℕ) → kind ≡ Content → entry_size s h kind at ≤ e - at → count ≡ byte_at s at
      → eqb count 0 ≡ ended s h kind e at
  unfolding ended
  content-ended Content e at count k l b = rw (le-ltb _ _ l, b)
  content-ended Encoding e at count k l b = absurd (kinds-differ (sym k))

-- ---- padding: a key of zeros

module _ (s : List ℕ) (h : Header) (kind : Kind) (at number : ℕ) (k : kind ≡ Encoding) (n : number ≡ spec_number_at s h at) where
  pub padding-zero : (number ≡ no_spec_number → ⊥) → number ≡ 0 → (zeros : Bool) → zeros ≡ all_zero (part_at s at h.encoding.key_size)
      → zeros ≡ padding s h kind at
  unfolding padding key_at key_offset table_of
  padding-zero e z zeros q = rw (k, ← n, ne_eqb number no_spec_number e, eq-eqb number 0 z, add-zero) q

-- ---- the walk

module _ (s : List ℕ) (h : Header) (kind : Kind) (e : ℕ) where
  -- turns enough give the same
  walk_same : (f g at : ℕ) → e - at ≤ f → e - at ≤ g → walk_by f s h kind e at ≡ walk_by g s h kind e at
  unfolding walk_by turn
  walk_same zero zero at l m = refl
  walk_same zero (suc g) at l m = rw (over-ended s h kind e at (omega (arith, size-some s h kind at)))
  walk_same (suc f) zero at l m = rw (over-ended s h kind e at (omega (arith, size-some s h kind at)))
  walk_same (suc f) (suc g) at l m =
      by-test (ended s h kind e at) (λ t. rw t)
      (λ t.
      let some = size-some s h kind at in
      let inside = entry-inside s h kind e at t in
      ap (turn (ended s h kind e at) (padding s h kind at) at)
      (walk_same f g (at + entry_size s h kind at) (omega (arith, some, inside)) (omega (arith, some, inside))))

  -- one turn
  pub walk_step : (at : ℕ) → walk_from s h kind e at ≡ turn (ended s h kind e at) (padding s h kind at) at (walk_from s h kind e (at + entry_size s h kind at))
  unfolding walk_from walk_by
  walk_step at =
      walk_same (e - at) (suc (e - at)) at (omega arith) (omega arith)
      ∙ ap (turn (ended s h kind e at) (padding s h kind at) at)
      (walk_same (e - at) (e - (at + entry_size s h kind at)) (at + entry_size s h kind at) (omega arith) (omega arith))

  pub walk-ended : (at : ℕ) → ended s h kind e at ≡ true → walk_from s h kind e at ≡ record { entries = []; end = at }
  unfolding turn
  walk-ended at t = walk_step at ∙ rw t

  pub walk-padding : (at : ℕ) → ended s h kind e at ≡ false → padding s h kind at ≡ true
      → walk_from s h kind e at ≡ walk_from s h kind e (at + entry_size s h kind at)
  unfolding turn
  walk-padding at t p = walk_step at ∙ rw (t, p)

  pub walk-entry : (at : ℕ) → ended s h kind e at ≡ false → padding s h kind at ≡ false
      → walk_from s h kind e at
      ≡ record { entries = at ∷ (walk_from s h kind e (at + entry_size s h kind at)).entries; end = (walk_from s h kind e (at + entry_size s h kind at)).end }
  unfolding turn
  walk-entry at t p = walk_step at ∙ rw (t, p)

  -- ---- the next entry

  -- From an offset on stand the same entries as from another, which is an entry or the end.
  pub record Next (from at : ℕ) : Type 0 where
    pub forward : from ≤ at
    pub same : walk_from s h kind e from ≡ walk_from s h kind e at
    pub real : ended s h kind e at ≡ false → padding s h kind at ≡ false

  pub next-ended : (at : ℕ) → ended s h kind e at ≡ true → next_entry s h kind e at ≡ at
  unfolding head_or
  next-ended at t = rw (walk-ended at t)

  pub next-entry : (at : ℕ) → ended s h kind e at ≡ false → padding s h kind at ≡ false → next_entry s h kind e at ≡ at
  unfolding head_or
  next-entry at t p = rw (walk-entry at t p)

  next_here : (at : ℕ) → ended s h kind e at ≡ true → Next at (next_entry s h kind e at)
  next_here at t = rw (next-ended at t) (record { forward = le_refl at; same = refl; real = λ u. absurd (false≢true (sym u ∙ t)) })

  next-real : (at : ℕ) → ended s h kind e at ≡ false → padding s h kind at ≡ false → Next at (next_entry s h kind e at)
  next-real at t p = rw (next-entry at t p) (record { forward = le_refl at; same = refl; real = λ u. p })

  next-later : (from at : ℕ) → from ≤ at → walk_from s h kind e from ≡ walk_from s h kind e at → Next at (next_entry s h kind e at)
      → Next from (next_entry s h kind e from)
  next-later from at l q n =
      let to : next_entry s h kind e from ≡ next_entry s h kind e at = ap (λ (w : Walk). head_or w.entries w.end) q in
      rw to (record { forward = omega (arith, n.forward); same = q ∙ n.same; real = n.real })

  next-in : (f from : ℕ) → e - from ≤ f → Next from (next_entry s h kind e from)
  next-in zero from l =
      next_here from (over-ended s h kind e from (omega (arith, size-some s h kind from)))
  next-in (suc f) from l =
      by-test (ended s h kind e from) (next_here from)
      (λ t. by-test (padding s h kind from)
      (λ p. next-later from _ (omega arith) (walk-padding from t p) (next-in f _ (omega (arith, size-some s h kind from, entry-inside s h kind e from t))))
      (next-real from t))

  pub next-is : (from : ℕ) → Next from (next_entry s h kind e from)
  next-is from = next-in (e - from) from (omega arith)

  -- after an entry fewer bytes are left
  pub next-less : (at size to : ℕ) → ended s h kind e at ≡ false → size ≡ entry_size s h kind at → to ≡ next_entry s h kind e (at + size) → e - to < e - at
  next-less at size to t z q =
      omega (arith, z, q, size-some s h kind at, entry-inside s h kind e at t, (next-is (at + size)).forward)

-- ---- reading the entries one by one

-- What was read before an offset, and what is still to read from there on.
pub record Reading (s : List ℕ) (h : Header) (kind : Kind) (e from : ℕ) (before : Span) (specs at : ℕ) (last : Span) (rises known : Bool) : Type 0 where
  pub ends : (walk_from s h kind e from).end ≡ (walk_from s h kind e at).end
  pub order : rising (key_at s h kind) (span_of s before) (walk_from s h kind e from).entries
      ≡ (rises && rising (key_at s h kind) (span_of s last) (walk_from s h kind e at).entries)
  pub last_key : last_span (key_span h kind) before (walk_from s h kind e from).entries ≡ last_span (key_span h kind) last (walk_from s h kind e at).entries
  pub numbers : all (spec_known s h kind specs) (walk_from s h kind e from).entries
      ≡ (known && all (spec_known s h kind specs) (walk_from s h kind e at).entries)
  pub real : ended s h kind e at ≡ false → padding s h kind at ≡ false

and_assoc : (a b c : Bool) → (a && (b && c)) ≡ ((a && b) && c)
and_assoc true b c = refl
and_assoc false b c = refl

and-true : (a : Bool) → (a && true) ≡ a
and-true true = refl
and-true false = refl

-- the key at a span's place
span_key : (s : List ℕ) (h : Header) (kind : Kind) (at : ℕ) → span_of s (key_span h kind at) ≡ key_at s h kind at
unfolding key_at
span_key s h kind at = refl

-- the last key at its place
pub last-spanned : (s : List ℕ) (h : Header) (kind : Kind) (before : Span) (entries : List ℕ)
    → span_of s (last_span (key_span h kind) before entries) ≡ last_key_before (key_at s h kind) (span_of s before) entries
unfolding last_span last_key_before
last-spanned s h kind before [] = refl
last-spanned s h kind before (at ∷ entries) =
    last-spanned s h kind (key_span h kind at) entries ∙ ap (λ k. last_key_before (key_at s h kind) k entries) (span_key s h kind at)

module _ (s : List ℕ) (h : Header) (kind : Kind) (e from : ℕ) (before : Span) (specs : ℕ) where
  pub reading-first : (at : ℕ) → at ≡ next_entry s h kind e from → Reading s h kind e from before specs at before true true
  reading-first at q =
      let n = next-is s h kind e from in
      rw q (record {
        ends = ap (λ (w : Walk). w.end) n.same;
        order = ap (λ (w : Walk). rising (key_at s h kind) (span_of s before) w.entries) n.same;
        last_key = ap (λ (w : Walk). last_span (key_span h kind) before w.entries) n.same;
        numbers = ap (λ (w : Walk). all (spec_known s h kind specs) w.entries) n.same;
        real = n.real;
      })

  module _ (at : ℕ) (last : Span) (rises known : Bool) (r : Reading s h kind e from before specs at last rises known) where
    pub reading-next : (to : ℕ) (key : Span) (above spec : Bool) → ended s h kind e at ≡ false → key ≡ key_span h kind at
        → above ≡ rises_to (span_of s last) (span_of s key) → spec ≡ spec_known s h kind specs at
        → (size : ℕ) → size ≡ entry_size s h kind at → to ≡ next_entry s h kind e (at + size)
        → Reading s h kind e from before specs to key (rises && above) (known && spec)
    unfolding rising last_span all key_at
    reading-next to key above spec t k a b size z q =
        let w = walk-entry s h kind e at t (r.real t) in
        let n = next-is s h kind e (at + entry_size s h kind at) in
        rw (q, z, a, b, k) (record {
          ends = r.ends ∙ ap (λ (w : Walk). w.end) w ∙ ap (λ (w : Walk). w.end) n.same;
          order = r.order
              ∙ ap (λ (w : Walk). rises && rising (key_at s h kind) (span_of s last) w.entries) w
              ∙ and_assoc rises _ _
              ∙ ap (λ (w : Walk). (rises && rises_to (span_of s last) (key_at s h kind at)) && rising (key_at s h kind) (key_at s h kind at) w.entries) n.same;
          last_key = r.last_key
              ∙ ap (λ (w : Walk). last_span (key_span h kind) last w.entries) w
              ∙ ap (λ (w : Walk). last_span (key_span h kind) (key_span h kind at) w.entries) n.same;
          numbers = r.numbers
              ∙ ap (λ (w : Walk). known && all (spec_known s h kind specs) w.entries) w
              ∙ and_assoc known _ _
              ∙ ap (λ (w : Walk). (known && spec_known s h kind specs at) && all (spec_known s h kind specs) w.entries) n.same;
          real = n.real;
        })

    module _ (t : ended s h kind e at ≡ true) where
      pub read-end : at ≡ (walk_from s h kind e from).end
      read-end = sym (r.ends ∙ ap (λ (w : Walk). w.end) (walk-ended s h kind e at t))

      pub read-order : rises ≡ rising (key_at s h kind) (span_of s before) (walk_from s h kind e from).entries
      unfolding rising
      read-order =
          sym
          (r.order ∙ ap (λ (w : Walk). rises && rising (key_at s h kind) (span_of s last) w.entries) (walk-ended s h kind e at t)
          ∙ and-true rises)

      pub read-last : last ≡ last_span (key_span h kind) before (walk_from s h kind e from).entries
      unfolding last_span
      read-last = sym (r.last_key ∙ ap (λ (w : Walk). last_span (key_span h kind) last w.entries) (walk-ended s h kind e at t))

      pub read-numbers : known ≡ all (spec_known s h kind specs) (walk_from s h kind e from).entries
      unfolding all
      read-numbers = sym (r.numbers ∙ ap (λ (w : Walk). known && all (spec_known s h kind specs) w.entries) (walk-ended s h kind e at t) ∙ and-true known)

-- ---- searching the entries one by one

pub record Searching (s : List ℕ) (h : Header) (kind : Kind) (e from : ℕ) (sought : List ℕ) (at : ℕ) : Type 0 where
  pub same : searched s h kind sought (walk_from s h kind e from) ≡ searched s h kind sought (walk_from s h kind e at)
  pub real : ended s h kind e at ≡ false → padding s h kind at ≡ false

module _ (s : List ℕ) (h : Header) (kind : Kind) (e from : ℕ) (sought : List ℕ) where
  pub searching-first : (at : ℕ) → at ≡ next_entry s h kind e from → Searching s h kind e from sought at
  searching-first at q =
      let n = next-is s h kind e from in
      rw q (record { same = ap (searched s h kind sought) n.same; real = n.real })

  module _ (at : ℕ) (r : Searching s h kind e from sought at) where
    entry-searched : ended s h kind e at ≡ false
        → searched s h kind sought (walk_from s h kind e from)
        ≡ cond (same_bytes (key_at s h kind at) sought) (Ok at) (searched s h kind sought (walk_from s h kind e (at + entry_size s h kind at)))
    unfolding search_in
    entry-searched t = r.same ∙ ap (searched s h kind sought) (walk-entry s h kind e at t (r.real t))

    pub search-found : (key : List ℕ) → ended s h kind e at ≡ false → key ≡ key_at s h kind at → same_bytes key sought ≡ true
        → Ok at ≡ searched s h kind sought (walk_from s h kind e from)
    search-found key t k y = sym (entry-searched t ∙ rw (← k, y))

    pub searching-next : (to : ℕ) (key : List ℕ) → ended s h kind e at ≡ false → key ≡ key_at s h kind at → same_bytes key sought ≡ false
        → to ≡ next_entry s h kind e (at + entry_size s h kind at) → Searching s h kind e from sought to
    searching-next to key t k y q =
        let n = next-is s h kind e (at + entry_size s h kind at) in
        rw q (record { same = entry-searched t ∙ rw (← k, y) (ap (searched s h kind sought) n.same); real = n.real })

    pub search-end : ended s h kind e at ≡ true → Err at ≡ searched s h kind sought (walk_from s h kind e from)
    unfolding search_in
    search-end t = sym (r.same ∙ ap (searched s h kind sought) (walk-ended s h kind e at t))

-- an entry that a search tells
pub found_inside : (s : List ℕ) (h : Header) (kind : Kind) (e at : ℕ) → ended s h kind e at ≡ false → (x : ℕ)
    → ◌≡◌ {A = Result ℕ ℕ} (Ok at) (Ok x) → x + entry_size s h kind x ≤ e
found_inside s h kind e at t x q = let same : at ≡ x = cc in rw (← same) (entry-inside s h kind e at t)

pub end-no-entry : (at x : ℕ) → ◌≡◌ {A = Result ℕ ℕ} (Err at) (Ok x) → ⊥
end-no-entry at x q = let z : ◌≡◌ {A = ℕ} 0 1 = cc in omega arith

-- the entry that a search of a page tells ends within the page
module _ (s : List ℕ) (h : Header) (kind : Kind) (e : ℕ) (sought : List ℕ) where
  search-by : (turns at x : ℕ) → searched s h kind sought (walk_by turns s h kind e at) ≡ Ok x → x + entry_size s h kind x ≤ e
  unfolding walk_by turn search_in
  search-by zero at x q = absurd (end-no-entry at x q)
  search-by (suc turns) at x q =
      by-test (ended s h kind e at) (λ t. absurd (end-no-entry at x (rw t at q)))
      (λ t. by-test (padding s h kind at) (λ p. search-by turns _ x (rw (t, p) at q))
      (λ p. by-test (same_bytes (key_at s h kind at) sought)
      (λ y. found_inside s h kind e at t x (rw (t, p, y) at q))
      (λ y. search-by turns _ x (rw (t, p, y) at q))))

  pub searched-inside : (at x : ℕ) → searched s h kind sought (walk_from s h kind e at) ≡ Ok x → x + entry_size s h kind x ≤ e
  unfolding walk_from
  searched-inside at x q = search-by _ at x q

-- ---- the first entry

module _ (s : List ℕ) (h : Header) (kind : Kind) (e from at : ℕ) (q : at ≡ next_entry s h kind e from) where
  first-same : walk_from s h kind e from ≡ walk_from s h kind e at
  first-same = rw q (next-is s h kind e from).same

  first-real : ended s h kind e at ≡ false → padding s h kind at ≡ false
  first-real = rw q (next-is s h kind e from).real

  pub starts_none : (first : List ℕ) → ended s h kind e at ≡ true → false ≡ starts_with (key_at s h kind) first (walk_from s h kind e from).entries
  unfolding starts_with
  starts_none first t = sym (ap (λ (w : Walk). starts_with (key_at s h kind) first w.entries) (first-same ∙ walk-ended s h kind e at t))

  pub starts_first : (first key : List ℕ) (same : Bool) → ended s h kind e at ≡ false → key ≡ key_at s h kind at → same ≡ same_bytes first key
      → same ≡ starts_with (key_at s h kind) first (walk_from s h kind e from).entries
  unfolding starts_with
  starts_first first key same t k y =
      y ∙ ap (same_bytes first) k
      ∙ sym (ap (λ (w : Walk). starts_with (key_at s h kind) first w.entries) (first-same ∙ walk-entry s h kind e at t (first-real t)))
