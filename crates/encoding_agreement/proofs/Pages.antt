-- Keys that rise through pages, one after the other: where a sought one can be. No bytes come in here: an entry is a number that
-- has a key.
use mathlib.Core.Path.{◌≡◌, refl, sym, ap, ◌∙◌}
use mathlib.Core.Bool.{Bool, true, false, cond, false≢true, and-eq-true_iff}
use mathlib.Core.List.{List, [], ◌∷◌, ◌++◌}
use Prim.Native.Nat.{ℕ, zero, suc, ◌+◌, ◌-◌, ◌≤◌, ◌<◌}
use native.Mathlib.Nat.{add-zero, zero-add}
use native.Mathlib.Decide.{dec_lt}
use native.Mathlib.Omega.{arith}
use Rattle.parts.specs.Part.{same_bytes, parts_from}
use Rattle.parts.proofs.Laws.{by-test, same_bytes-eq, same_bytes-not}
use Rattle.parts.proofs.Parts.{parts-append}
use Rattle.std.specs.declared.cmp.Ordering.{Ordering}
use Rattle.std.specs.declared.cmp.Ordering.TheVariants.{Less, Equal, Greater}
use Rattle.key.specs.Order.{compared, is_below, is_above}
use Rattle.key.proofs.Laws.{below-not-equal, is_below-true, equal-of-eq, below-of-above, below-trans, below-then-not-above}
use Rattle.encoding_header.proofs.Laws.{met}
use Rattle.encoding_page.specs.Entries.{rises_to, rising, last_key_before, starts_with}
use Rattle.encoding_index.specs.Chosen.{up_to}
use Rattle.encoding_agreement.specs.Plain.{found, nowhere, first_with}

-- ---- above or not

above-true : (o : Ordering) → is_above o ≡ true → o ≡ Greater
above-true Less e = absurd (false≢true e)
above-true Equal e = absurd (false≢true e)
above-true Greater e = refl

above-false : (o : Ordering) → is_above o ≡ false → o ≡ Greater → ⊥
above-false o e g = false≢true (sym e ∙ ap is_above g)

-- ---- entries in a row

module _ (key : ℕ → List ℕ) where
  -- the key before rises to the first one, and that to the others
  rises-to : (before : List ℕ) (at : ℕ) (a : List ℕ) → rising key before (at ∷ a) ≡ true → (compared before (key at) ≡ Less) × (rising key (key at) a ≡ true)
  unfolding rising
  rises-to before at a r =
      let p = (and-eq-true_iff (rises_to before (key at)) (rising key (key at) a)).0 r in
      (is_below-true _ p.0, p.1)

  rising-append : (before a b : List ℕ) → rising key before a ≡ true → rising key (last_key_before key before a) b ≡ true → rising key before (a ++ b) ≡ true
  unfolding rising last_key_before
  rising-append before [] b r l = l
  rising-append before (at ∷ a) b r l =
      let p = rises-to before at a r in
      met (ap is_below p.0) (rising-append (key at) a b p.1 l)

  last-append : (before a b : List ℕ) → last_key_before key before (a ++ b) ≡ last_key_before key (last_key_before key before a) b
  unfolding last_key_before
  last-append before [] b = refl
  last-append before (at ∷ a) b = last-append (key at) a b

  starts-append : (first a b : List ℕ) → starts_with key first a ≡ true → starts_with key first (a ++ b) ≡ true
  unfolding starts_with
  starts-append first [] b e = absurd (false≢true e)
  starts-append first (at ∷ a) b e = e

  -- the key before rises to the first one
  starts-above : (before first a : List ℕ) → starts_with key first a ≡ true → rising key before a ≡ true → compared before first ≡ Less
  unfolding starts_with
  starts-above before first [] e r = absurd (false≢true e)
  starts-above before first (at ∷ a) e r = rw (same_bytes-eq first (key at) e) (rises-to before at a r).0

  module _ (sought : List ℕ) where
    -- what stands behind entries without the sought key does not matter
    first-append : (a b : List ℕ) → first_with key sought b ≡ nowhere → first_with key sought (a ++ b) ≡ first_with key sought a
    unfolding first_with
    first-append [] b e = e
    first-append (at ∷ a) b e = ap (cond (same_bytes (key at) sought) (found at)) (first-append a b e)

    -- Entries whose last key is below the sought one: so are all of them, and the key before.
    before-below : (before a : List ℕ) → rising key before a ≡ true → compared (last_key_before key before a) sought ≡ Less → compared before sought ≡ Less
    unfolding rising last_key_before
    before-below before [] r l = l
    before-below before (at ∷ a) r l =
        let p = rises-to before at a r in
        below-trans before (key at) sought p.0 (before-below (key at) a p.1 l)

    below-passed : (before a b : List ℕ) → rising key before a ≡ true → compared (last_key_before key before a) sought ≡ Less
        → first_with key sought (a ++ b) ≡ first_with key sought b
    unfolding rising last_key_before first_with
    below-passed before [] b r l = refl
    below-passed before (at ∷ a) b r l =
        let p = rises-to before at a r in
        let other = same_bytes-not (key at) sought (λ e. below-not-equal (before-below (key at) a p.1 l) (equal-of-eq _ _ e)) in
        rw other (below-passed (key at) a b p.1 l)

    -- Entries behind a key that is above the sought one: so are all of them.
    above-none : (before a : List ℕ) → rising key before a ≡ true → compared sought before ≡ Less → first_with key sought a ≡ nowhere
    unfolding rising first_with
    above-none before [] r l = refl
    above-none before (at ∷ a) r l =
        let p = rises-to before at a r in
        let above = below-trans sought before (key at) l p.0 in
        let other = same_bytes-not (key at) sought (λ e. below-not-equal above (equal-of-eq _ _ (sym e))) in
        rw other (above-none (key at) a p.1 above)

    starts_none : (before first a : List ℕ) → starts_with key first a ≡ true → rising key before a ≡ true → compared sought first ≡ Less
        → first_with key sought a ≡ nowhere
    unfolding starts_with rising first_with
    starts_none before first [] e r l = refl
    starts_none before first (at ∷ a) e r l =
        let above : compared sought (key at) ≡ Less = rw (same_bytes-eq first (key at) e) at l in
        let other = same_bytes-not (key at) sought (λ g. below-not-equal above (equal-of-eq _ _ (sym g))) in
        rw other (above-none (key at) a (rises-to before at a r).1 above)

-- ---- the chosen page

-- The choice among n pages, as the number c of pages up to the chosen one: that one is not above, and the next, where there is one, is.
pub record Chosen (above : ℕ → Bool) (n c : ℕ) : Type 0 where
  pub inside : c ≤ n
  pub later : c < n → above c ≡ true
  pub here : (i : ℕ) → c ≡ suc i → above i ≡ false

pub chosen : (above : ℕ → Bool) (n : ℕ) → Chosen above n (up_to above n)
unfolding up_to
chosen above zero = record { inside = omega arith; later = λ l. absurd (omega arith); here = λ i e. absurd (omega arith) }
chosen above (suc n) =
    by-test (above n) (λ t. rw t (wider t (chosen above n)))
    (λ t. rw t (record {
      inside = omega arith;
      later = λ l. absurd (omega arith);
      here = λ i e. let same : i ≡ n = omega arith in ap above same ∙ t;
    }))
  where
    wider : {c : ℕ} → above n ≡ true → Chosen above n c → Chosen above (suc n) c
    wider {c} t k = record {
      inside = omega arith;
      later = λ l. later (dec_lt c n);
      here = k.here;
    }
      where
        later : Dec (c < n) → above c ≡ true
        later (yes m) = k.later m
        later (no m) = let same : c ≡ n = omega arith in ap above same ∙ t

-- ---- pages

-- Pages of entries: the stored first key of each is that of its first entry, and the keys rise from the last one in the pages before.
pub record Pages (key entries first before : ℕ → List ℕ) (n : ℕ) : Type 0 where
  pub starts : (i : ℕ) → i < n → starts_with key (first i) (entries i) ≡ true
  pub rises : (i : ℕ) → i < n → rising key (before i) (entries i) ≡ true
  pub next : (i : ℕ) → before (suc i) ≡ last_key_before key (before i) (entries i)

-- The entries of the chosen page.
unfoldable pub page_up_to : (ℕ → List ℕ) → ℕ → List ℕ
page_up_to entries zero = []
page_up_to entries (suc i) = entries i

module _ {key entries first before : ℕ → List ℕ} {n : ℕ} (p : Pages key entries first before n) where
  rising-from : (i m : ℕ) → i + m ≤ n → rising key (before i) (parts_from entries i m) ≡ true
  unfolding parts_from rising
  rising-from i zero l = refl
  rising-from i (suc m) l =
      rising-append key (before i) (entries i) (parts_from entries (suc i) m) (p.rises i (omega arith))
      (rw (← p.next i) (rising-from (suc i) m (omega arith)))

  last-from : (i m : ℕ) → last_key_before key (before i) (parts_from entries i m) ≡ before (i + m)
  unfolding parts_from last_key_before
  last-from i zero = ap before (sym (add-zero i))
  last-from i (suc m) =
      let shift : suc i + m ≡ i + suc m = omega arith in
      last-append key (before i) (entries i) (parts_from entries (suc i) m)
      ∙ rw (← p.next i) (last-from (suc i) m) ∙ ap before shift

  module _ (sought : List ℕ) where
    -- the pages from one on whose first key is above
    above_from : (i m : ℕ) → i + m ≡ n → (0 < m → is_above (compared (first i) sought) ≡ true) → first_with key sought (parts_from entries i m) ≡ nowhere
    unfolding parts_from first_with
    above_from i zero e above = refl
    above_from i (suc m) e above =
        starts_none key sought (before i) (first i) (entries i ++ parts_from entries (suc i) m)
        (starts-append key (first i) (entries i) _ (p.starts i (omega arith)))
        (rising-from i (suc m) (omega arith))
        (below-of-above (first i) sought (above-true _ (above (omega arith))))

    pub pages-agree : (c : ℕ) → Chosen (λ i. is_above (compared (first i) sought)) n c
        → first_with key sought (parts_from entries 0 n) ≡ first_with key sought (page_up_to entries c)
    unfolding first_with parts_from page_up_to
    pages-agree zero k = above_from 0 n (zero-add n) k.later
    pages-agree (suc i) k =
        let m : ℕ = n - suc i in
        let parts : i + suc m ≡ n = omega arith in
        let front = parts_from entries 0 i in
        let here = starts-above key (before i) (first i) (entries i) (p.starts i (omega arith)) (p.rises i (omega arith)) in
        let below = below-then-not-above (before i) (first i) sought here (above-false _ (k.here i refl)) in
        let last : last_key_before key (before 0) front ≡ before i = last-from 0 i ∙ ap before (zero-add i) in
        let cut : parts_from entries 0 n ≡ front ++ (entries i ++ parts_from entries (suc i) m) =
        ap (parts_from entries 0) (sym parts) ∙ parts-append entries 0 i (suc m) ∙ rw (zero-add i) in
        rw cut
        (below-passed key sought (before 0) front (entries i ++ parts_from entries (suc i) m)
        (rising-from 0 i (omega arith)) (rw last below)
        ∙ first-append key sought (entries i) (parts_from entries (suc i) m)
        (above_from (suc i) m (omega arith) (λ l. k.later (omega arith))))
