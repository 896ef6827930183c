-- What is asked of every entry.
use mathlib.Core.Path.{◌≡◌, refl}
use mathlib.Core.Bool.{Bool, true, false, and-eq-true_iff}
use mathlib.Core.List.{List, [], ◌∷◌, ◌++◌}
use Prim.Native.Nat.{ℕ, zero, suc, ◌+◌, ◌<◌}
use native.Mathlib.Omega.{arith}
use Rattle.parts.specs.Part.{parts_from}
use Rattle.parts.proofs.Laws.{by-test}
use Rattle.encoding_header.specs.declared.Kind.{Kind}
use Rattle.encoding_header.specs.declared.Header.{Header}
use Rattle.encoding_header.specs.Header.{table_of, page_end}
use Rattle.encoding_header.proofs.Laws.{met}
use Rattle.encoding_page.specs.Entries.{padding, ended, turn, walk_by, walk_from, entries_of, all_entries, all}

module _ (test : ℕ → Bool) where
  all_append : (a b : List ℕ) → all test a ≡ true → all test b ≡ true → all test (a ++ b) ≡ true
  unfolding all
  all_append [] b e g = g
  all_append (at ∷ a) b e g =
      let p = (and-eq-true_iff (test at) (all test a)).0 e in
      met p.0 (all_append a b p.1 g)

  all_from : (entries : ℕ → List ℕ) (i n : ℕ) → ((j : ℕ) → j < i + n → all test (entries j) ≡ true) → all test (parts_from entries i n) ≡ true
  unfolding all parts_from
  all_from entries i zero h = refl
  all_from entries i (suc n) h =
      all_append (entries i) (parts_from entries (suc i) n) (h i (omega arith)) (all_from entries (suc i) n (λ j l. h j (omega arith)))

module _ (test : ℕ → Bool) (s : List ℕ) (h : Header) (kind : Kind) where
  -- What holds of the entries of each page holds of all.
  pub every-page : ((i : ℕ) → i < (table_of h kind).pages → all test (entries_of s h kind i).entries ≡ true) → all test (all_entries s h kind) ≡ true
  unfolding all_entries
  every-page each = all_from test _ 0 (table_of h kind).pages (λ i l. each i (omega arith))

  -- What holds of every entry before the end of a page holds of the entries that it has.
  module _ (e : ℕ) (holds : (at : ℕ) → ended s h kind e at ≡ false → test at ≡ true) where
    walk-all : (turns at : ℕ) → all test (walk_by turns s h kind e at).entries ≡ true
    unfolding all walk_by turn
    walk-all zero at = refl
    walk-all (suc turns) at =
        by-test (ended s h kind e at) (λ t. rw t)
        (λ t. by-test (padding s h kind at) (λ p. rw (t, p) (walk-all turns _))
        (λ p. rw (t, p) (met (holds at t) (walk-all turns _))))

  pub page-all : (i : ℕ) → ((at : ℕ) → ended s h kind (page_end h kind i) at ≡ false → test at ≡ true) → all test (entries_of s h kind i).entries ≡ true
  unfolding entries_of walk_from
  page-all i holds = walk-all (page_end h kind i) holds _ _
