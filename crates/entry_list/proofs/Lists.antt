-- Laws of lists of entries: numbered ones, joined and cut again, of one size, and with keys that rise.
use mathlib.Core.Path.{◌≡◌, refl, sym, ap, ap₂, ◌∙◌}
use mathlib.Core.Bool.{Bool, true, ◌&&◌}
use mathlib.Core.List.{List, [], ◌∷◌, ◌++◌, append_assoc, append-nil}
use Prim.Native.Nat.{ℕ, zero, suc, ◌+◌, ◌*◌, ◌/◌, ◌≤◌, ◌<◌}
use native.Mathlib.Nat.{suc-mul, zero-mul, mul-div_cancel}
use native.Mathlib.Omega.{arith}
use lib.Dec.{ltb}
use lib.ListN.{length, take, length-append}
use lib.Seq.{take_at}
use borrow.Author.Tests.{eq-eqb, eqb-true, ltb-true, ltb-false}
use Rattle.parts.specs.Part.{part_at, parts_from}
use Rattle.parts.proofs.Laws.{by-test, both}
use Rattle.parts.proofs.Parts.{part-after}
use Rattle.key.specs.Order.{compared, is_below}
use Rattle.entry_list.specs.Entries.{Entry, entries_from, list_entries, joined, sized, below_first, rises}

pub together : {a b : Bool} → a ≡ true → b ≡ true → (a && b) ≡ true
together p q = rw (p, q)

-- ---- numbered entries

pub from-same : (f g : ℕ → Entry) (i n : ℕ) → ((j : ℕ) → i ≤ j → j < i + n → f j ≡ g j) → entries_from f i n ≡ entries_from g i n
unfolding entries_from
from-same f g i zero h = refl
from-same f g i (suc n) h =
    ap₂ ◌∷◌ (h i (omega arith) (omega arith)) (from-same f g (suc i) n (λ j a b. h j (omega arith) (omega arith)))

from-later : (f : ℕ → Entry) (i n : ℕ) → entries_from f (suc i) n ≡ entries_from (λ g. f (suc g)) i n
unfolding entries_from
from-later f i zero = refl
from-later f i (suc n) = ap (λ r. f (suc i) ∷ r) (from-later f (suc i) n)

pub from-length : (f : ℕ → Entry) (i n : ℕ) → length (entries_from f i n) ≡ n
unfolding entries_from
from-length f i zero = refl
from-length f i (suc n) = ap suc (from-length f (suc i) n)

-- ---- joined

pub joined-append : (a b : List Entry) → joined (a ++ b) ≡ joined a ++ joined b
unfolding joined
joined-append [] b = refl
joined-append (e ∷ a) b = ap (λ r. e ++ r) (joined-append a b) ∙ sym (append_assoc e (joined a) (joined b))

pub joined-from : (f : ℕ → Entry) (i n : ℕ) → joined (entries_from f i n) ≡ parts_from f i n
unfolding joined entries_from parts_from
joined-from f i zero = refl
joined-from f i (suc n) = ap (λ r. f i ++ r) (joined-from f (suc i) n)

module _ (size : ℕ) where
  pub joined_length : (es : List Entry) → sized size es ≡ true → length (joined es) ≡ length es * size
  unfolding joined sized
  joined_length [] h = sym (zero-mul size)
  joined_length (e ∷ es) h =
      let two = both _ _ h in
      let long : length e ≡ size = eqb-true _ _ two.0 in
      length-append e (joined es) ∙ omega (arith, joined_length es two.1, suc-mul (length es) size)

  -- entries of one size that are joined and cut again
  cut_later : (e rest : List ℕ) (g : ℕ) → length e ≡ size → part_at (e ++ rest) (suc g * size) size ≡ part_at rest (g * size) size
  cut_later e rest g long =
      let at : suc g * size ≡ size + g * size = suc-mul g size ∙ omega arith in
      ap (λ n. part_at (e ++ rest) n size) at ∙ part-after e rest (g * size) size size long

  cut-from : (es : List Entry) → sized size es ≡ true → entries_from (λ g. part_at (joined es) (g * size) size) 0 (length es) ≡ es
  unfolding entries_from joined sized
  cut-from [] h = refl
  cut-from (e ∷ es) h =
      let two = both _ _ h in
      let long : length e ≡ size = eqb-true _ _ two.0 in
      let later : (g : ℕ) → part_at (e ++ joined es) (suc g * size) size ≡ part_at (joined es) (g * size) size = λ g. cut_later e (joined es) g long in
      ap₂ ◌∷◌ (ap (λ at. part_at (e ++ joined es) at size) (zero-mul size) ∙ take_at e (joined es) size long)
      (from-later (λ g. part_at (e ++ joined es) (g * size) size) 0 (length es)
      ∙ from-same _ (λ g. part_at (joined es) (g * size) size) 0 (length es) (λ g a b. later g)
      ∙ cut-from es two.1)

  pub cut-joined : (es : List Entry) → 1 ≤ size → sized size es ≡ true → list_entries size (joined es) ≡ es
  unfolding list_entries
  cut-joined es low h =
      let count : length (joined es) / size ≡ length es = ap (λ n. n / size) (joined_length es h) ∙ mul-div_cancel (length es) low in
      ap (entries_from (λ g. part_at (joined es) (g * size) size) 0) count ∙ cut-from es h

  pub sized-from : (f : ℕ → Entry) (rest : List Entry) (i n : ℕ) → ((j : ℕ) → i ≤ j → j < i + n → length (f j) ≡ size)
      → sized size rest ≡ true → sized size (entries_from f i n ++ rest) ≡ true
  unfolding sized entries_from
  sized-from f rest i zero h r = r
  sized-from f rest i (suc n) h r =
      together (eq-eqb _ _ (h i (omega arith) (omega arith))) (sized-from f rest (suc i) n (λ j a b. h j (omega arith) (omega arith)) r)

-- ---- rising

module _ (k : ℕ) (f : ℕ → Entry) where
  abbrev Next : ℕ → Type 0
  Next g = is_below (compared (take k (f g)) (take k (f (suc g)))) ≡ true

  -- n entries and the rest, where each is below the next and the last is below the first of the rest
  pub rises-on : (rest : List Entry) (last : ℕ) → rises k rest ≡ true → below_first k (f last) rest ≡ true
      → (i n : ℕ) → i + n ≡ suc last → ((g : ℕ) → i ≤ g → g < last → Next g) → rises k (entries_from f i n ++ rest) ≡ true
  unfolding rises below_first entries_from
  rises-on rest last r b i zero e h = r
  rises-on rest last r b i (suc zero) e h =
      let same : i ≡ last = omega arith in
      rw (same, b) r
  rises-on rest last r b i (suc (suc n)) e h =
      let next : Next i = h i (omega arith) (omega arith) in
      rw next (rises-on rest last r b (suc i) (suc n) (omega arith) (λ g a c. h g (omega arith) c))

  pub rises-from : (n : ℕ) → ((g : ℕ) → suc g < n → Next g) → rises k (entries_from f 0 n) ≡ true
  unfolding rises below_first entries_from
  rises-from zero h = refl
  rises-from (suc n) h =
      ap (rises k) (sym (append-nil (entries_from f 0 (suc n)))) ∙ rises-on [] n refl refl 0 (suc n) (omega arith) (λ g a b. h g (omega arith))

  pub rising-at : (i n : ℕ) → rises k (entries_from f i n) ≡ true → (g : ℕ) → i ≤ g → suc g < i + n → Next g
  unfolding rises below_first entries_from
  rising-at i zero r g low high = absurd (omega arith)
  rising-at i (suc zero) r g low high = absurd (omega arith)
  rising-at i (suc (suc n)) r g low high =
      let two = both (is_below (compared (take k (f i)) (take k (f (suc i))))) (rises k (entries_from f (suc i) (suc n))) r in
      by-test (ltb i g) (λ t. rising-at (suc i) (suc n) two.1 g (ltb-true i g t) (omega arith))
      (λ t. let same : i ≡ g = omega (arith, ltb-false i g t) in rw same at two.0)
