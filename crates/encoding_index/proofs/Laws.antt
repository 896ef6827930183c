-- Laws of the choice of a page.
use mathlib.Core.Path.{◌≡◌, refl, ap, ◌∙◌}
use mathlib.Core.Bool.{Bool, true, false}
use mathlib.Core.List.{List}
use Prim.Native.Nat.{ℕ, zero, suc, ◌-◌, ◌≤◌, ◌<◌}
use native.Mathlib.Nat.{le_refl, not-suc-le-zero}
use native.Mathlib.Omega.{arith}
use Rattle.parts.specs.Part.{part_at}
use Rattle.numbers.specs.Number.{big_at}
use Rattle.key.specs.Order.{compared, is_below, is_above}
use Rattle.key.specs.Eight.{eight_at}
use Rattle.key.proofs.Laws.{Bytes, above-is-below, above-of-big_at, part_bytes, part-number, eight-some}
use Rattle.encoding_header.specs.declared.Kind.{Kind}
use Rattle.encoding_header.specs.declared.Header.{Header}
use Rattle.encoding_header.specs.Header.{table_of, row_at, first_key_at}
use Rattle.encoding_index.specs.Chosen.{up_to, first_key_above, Skipped}

-- one page less, or the page
module _ (above : ℕ → Bool) where
  pub up-to-none : up_to above 0 ≡ 0
  unfolding up_to
  up-to-none = refl

  pub up-to-above : (n : ℕ) → 0 < n → above (n - 1) ≡ true → up_to above n ≡ up_to above (n - 1)
  unfolding up_to
  up-to-above zero l e = absurd (not-suc-le-zero l)
  up-to-above (suc i) l e = let p : suc i - 1 ≡ i = omega arith in rw (p, rw p at e)

  pub up-to-here : (n : ℕ) → 0 < n → above (n - 1) ≡ false → up_to above n ≡ n
  unfolding up_to
  up-to-here zero l e = absurd (not-suc-le-zero l)
  up-to-here (suc i) l e = let p : suc i - 1 ≡ i = omega arith in rw (rw p at e)

-- the first eight bytes tell that a key is above
pub above-by-eight : (s : List ℕ) (h : Header) (kind : Kind) (sought : List ℕ) (i mine theirs : ℕ) → Bytes s → 8 ≤ (table_of h kind).key_size
    → mine ≡ big_at sought 0 8 → theirs ≡ eight_at s (row_at h kind i) → mine < theirs → first_key_above s h kind sought i ≡ true
unfolding first_key_at
above-by-eight s h kind sought i mine theirs bytes wide p q less =
    let n : ℕ = (table_of h kind).key_size in
    let there = eight-some s (row_at h kind i) (omega arith) in
    ap is_above
    (above-of-big_at 8 (part_at s (row_at h kind i) n) sought (part_bytes s (row_at h kind i) n bytes)
    (omega (arith, there, part-number s (row_at h kind i) n 8 wide)))

-- ---- passing over pages

pub skipped-none : (s : List ℕ) (h : Header) (kind : Kind) (sought : List ℕ) (n : ℕ) → Skipped s h kind sought n n
skipped-none s h kind sought n = record { back = le_refl n; same = refl }

pub skipped-one : (s : List ℕ) (h : Header) (kind : Kind) (sought : List ℕ) (from n : ℕ) → Skipped s h kind sought from n → 0 < n
    → first_key_above s h kind sought (n - 1) ≡ true → Skipped s h kind sought from (n - 1)
skipped-one s h kind sought from n k l e =
    record { back = omega (arith, k.back); same = k.same ∙ up-to-above (first_key_above s h kind sought) n l e }

-- what the comparison of a stored first key tells
pub told : {key first : List ℕ} (sought : List ℕ) {rises value : Bool} → key ≡ first → rises ≡ is_below (compared sought key) → rises ≡ value
    → is_above (compared first sought) ≡ value
told {first = first} sought e a v = above-is-below first sought ∙ rw (← e, ← a) v

pub none_left : {n : ℕ} → n ≤ 0 → n ≡ 0
none_left l = omega arith
