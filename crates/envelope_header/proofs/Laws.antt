-- Laws of the header and of the chunks' sizes.
use mathlib.Core.Path.{◌≡◌, refl, sym, ap, ◌∙◌}
use mathlib.Core.Bool.{Bool, true, false}
use mathlib.Core.List.{List}
use mathlib.Core.Logic.{◌⊎◌, inl, inr}
use Prim.Native.Nat.{ℕ, zero, suc, ◌+◌, ◌-◌, ◌^◌, ◌≤◌, ◌<◌}
use native.Mathlib.Nat.{sub-zero}
use native.Mathlib.Numerals.{add-one}
use native.Mathlib.Omega.{arith}
use lib.Dec.{eqb}
use lib.ListN.{length}
use borrow.Author.Tests.{eq-eqb, ne_eqb}
use Rattle.parts.specs.Part.{byte_at}
use Rattle.numbers.specs.Number.{big_at}
use Rattle.numbers.proofs.Laws.{big_at-below}
use Rattle.refusal.specs.Check.{Check, silent, refused, refused_if, first, first_from}
use Rattle.refusal.specs.Number.{chunk_sizes, number_of}
use Rattle.refusal.proofs.Laws.{said, quiet, first_said, skip, from-said}
use Rattle.refusal.proofs.Laws.{from-quiet, from-none, told-answer, told-refusal}
use Rattle.refusal.specs.declared.Refusal.{Refusal}
use Rattle.refusal.specs.Outcome.{answered, after}
use Rattle.envelope_header.specs.declared.Header.{Header}
use Rattle.std.specs.Prelude.{Result, Ok, Err}
use Rattle.envelope_header.specs.Header.{count_offset, chunk_count, header_length, encoded_size, chunk_at, empty_check, sum_check, sizes_check, header_values, outcome}

-- a chunk count has three bytes
pub count_fits : (s : List ℕ) (r : ℕ) → ((i : ℕ) → byte_at s i < 256) → r ≡ big_at s count_offset 3 → r < 2 ^ 24
count_fits s r bytes e = rw e (big_at-below s bytes count_offset 3)

-- a sequence of which each part says 22 or nothing, and the last says it
tests : (b : Bool) (later : Check) → (later ≡ silent) ⊎ (later ≡ refused chunk_sizes 0)
    → (first (refused_if b chunk_sizes 0) later ≡ silent) ⊎ (first (refused_if b chunk_sizes 0) later ≡ refused chunk_sizes 0)
unfolding refused_if first
tests true later e = inr refl
tests false later e = e

either : (k later : Check) → (k ≡ silent) ⊎ (k ≡ refused chunk_sizes 0) → later ≡ refused chunk_sizes 0 → first k later ≡ refused chunk_sizes 0
either k later (inl e) p = skip e p
either k later (inr e) p = first_said later e

module _ (s : List ℕ) (h : Header) where
  -- chunks stand one after the other
  pub chunk-after : (i : ℕ) → chunk_at s h (i + 1) ≡ chunk_at s h i + encoded_size s h i
  unfolding chunk_at
  chunk-after i = rw (add-one i)

  pub chunk-from : (i n : ℕ) → chunk_at s h i ≤ chunk_at s h (i + n)
  chunk-from i zero = let e : i + 0 ≡ i = omega arith in rw e (omega arith)
  chunk-from i (suc n) =
      let e : i + suc n ≡ i + n + 1 = omega arith in
      rw (e, chunk-after (i + n)) (omega (arith, chunk-from i n))

  pub chunk-upto : (i j : ℕ) → i ≤ j → chunk_at s h i ≤ chunk_at s h j
  chunk-upto i j l =
      let e : i + (j - i) ≡ j = omega arith in
      rw (← e) (chunk-from i (j - i))

  -- a check of empty chunks says 22 or nothing
  pub empty-says : (i n : ℕ) → (first_from (empty_check s h) i n ≡ silent) ⊎ (first_from (empty_check s h) i n ≡ refused chunk_sizes 0)
  unfolding first_from empty_check
  empty-says i zero = inl refl
  empty-says i (suc n) = tests (eqb (encoded_size s h i) 0) (first_from (empty_check s h) (suc i) n) (empty-says (suc i) n)

  -- chunks that end past or before the file are 22
  pub sizes-wrong : (chunk_at s h (chunk_count h) ≡ length s → ⊥) → sizes_check s h ≡ refused chunk_sizes 0
  unfolding sizes_check
  sizes-wrong ne = either (first_from (empty_check s h) 0 (chunk_count h)) (sum_check s h) (empty-says 0 (chunk_count h)) (said refl (rw (ne_eqb _ _ ne)))

  pub header-over : length s < header_length h → sizes_check s h ≡ refused chunk_sizes 0
  unfolding chunk_at
  header-over l = sizes-wrong (λ e. omega (arith, e, chunk-upto 0 (chunk_count h) (omega arith)))

-- The chunks before i are not empty, and `left` bytes follow them.
pub record Sized (s : List ℕ) (h : Header) (i left : ℕ) : Type 0 where
  pub inside : i ≤ chunk_count h
  pub after : chunk_at s h i + left ≡ length s
  pub rest : sizes_check s h ≡ first (first_from (empty_check s h) i (chunk_count h - i)) (sum_check s h)

pub sized-none : (s : List ℕ) (h : Header) (left : ℕ) → header_length h ≤ length s → left ≡ length s - header_length h → Sized s h 0 left
unfolding sizes_check chunk_at
sized-none s h left l e = record { inside = omega arith; after = omega arith; rest = rw sub-zero }

module _ {s : List ℕ} {h : Header} {i left : ℕ} (z : Sized s h i left) (size : ℕ) (e : size ≡ encoded_size s h i) (l : i < chunk_count h) where
  pub sized-empty : size ≡ 0 → sizes_check s h ≡ refused chunk_sizes 0
  unfolding empty_check
  sized-empty none =
      z.rest ∙ first_said _ (from-said (empty_check s h) i (chunk_count h - i) (omega arith) (said refl (eq-eqb _ 0 (sym e ∙ none))))

  pub sized-over : left < size → sizes_check s h ≡ refused chunk_sizes 0
  sized-over less =
      sizes-wrong s h (λ g. omega (arith, g, e, z.after, chunk-after s h i, chunk-upto s h (i + 1) (chunk_count h) (omega arith)))

  pub sized-next : (size ≡ 0 → ⊥) → size ≤ left → Sized s h (i + 1) (left - size)
  unfolding empty_check
  sized-next some most =
      let less : chunk_count h - i - 1 ≡ chunk_count h - (i + 1) = omega arith in
      record {
        inside = omega arith;
        after = omega (arith, e, z.after, chunk-after s h i);
        rest = z.rest
            ∙ ap (λ k. first k (sum_check s h))
            (from-quiet (empty_check s h) i (chunk_count h - i) (omega arith) (quiet chunk_sizes 0 refl (ne_eqb _ 0 (λ g. some (e ∙ g)))))
            ∙ ap (λ n. first (first_from (empty_check s h) (i + 1) n) (sum_check s h)) less;
      }

module _ {s : List ℕ} {h : Header} {i left : ℕ} (z : Sized s h i left) (l : chunk_count h ≤ i) where
  last : i ≡ chunk_count h
  last = omega (arith, z.inside)

  pub sized-more : (left ≡ 0 → ⊥) → sizes_check s h ≡ refused chunk_sizes 0
  sized-more some = sizes-wrong s h (λ g. some (omega (arith, g, z.after, ap (chunk_at s h) last)))

  pub sized-all : left ≡ 0 → sizes_check s h ≡ silent
  sized-all none =
      let end : chunk_count h - i ≡ 0 = omega arith in
      let whole : chunk_at s h (chunk_count h) ≡ length s = omega (arith, z.after, ap (chunk_at s h) last) in
      z.rest ∙ rw end (skip (from-none (empty_check s h) i) (quiet chunk_sizes 0 refl (rw (eq-eqb _ _ whole))))

-- ---- what opening answers

pub passed-header : (k : Check) (l m : Header) (v : Result Header Refusal) → outcome v ≡ after k (answered (header_values m))
    → v ≡ Ok l → (k ≡ silent) × (l ≡ m)
unfolding header_values
passed-header k l m v e g =
    let a = told-answer header_values k (header_values m) v e g in
    let r : l.rows ≡ m.rows = cc in
    (a.0, λ i. record { rows = r i })

pub refused-header : (k : Check) (m : Header) (v : Result Header Refusal) {r : Refusal} → outcome v ≡ after k (answered (header_values m)) → v ≡ Err r
    → k ≡ refused (number_of r.reason) r.place
refused-header k m v e g = told-refusal header_values k (header_values m) v e g
