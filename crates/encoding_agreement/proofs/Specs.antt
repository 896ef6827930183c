-- A spec by its number is the string with that number in the table.
use mathlib.Core.Path.{◌≡◌, refl, sym, ap, ap₂, ◌∙◌}
use mathlib.Core.Bool.{true, false, not}
use mathlib.Core.List.{List, [], ◌∷◌}
use Prim.Native.Nat.{ℕ, ◌+◌, ◌≤◌, ◌<◌}
use native.Mathlib.Decide.{dec_lt}
use native.Mathlib.Omega.{arith}
use borrow.Author.Tests.{lt-ltb, le-ltb}
use lib.Dec.{ltb}
use lib.ListN.{length}
use Rattle.parts.specs.Part.{byte_at}
use Rattle.parts.proofs.Laws.{part-of-part, part_at-byte}
use Rattle.refusal.specs.Check.{silent, refused}
use Rattle.refusal.specs.Number.{spec_number}
use Rattle.refusal.specs.Outcome.{answered}
use Rattle.refusal.proofs.Laws.{said, quiet, after-said, after-quiet}
use Rattle.spec_table.specs.Specs.{strings, count_of, start_of, place_of, length_at}
use Rattle.spec_table.proofs.Table.{strings-counted, spec-table, start-run, spec-long, place-there, place-past}
use Rattle.encoding_header.specs.declared.Header.{Header}
use Rattle.encoding_header.specs.Header.{header_size, header_of, index_at, spec_table, opening}
use Rattle.encoding_header.proofs.Laws.{whole, spec-length}
use Rattle.encoding_lookup.specs.Lookup.{spec_check, spec_told, part_after, spec_string, place_after, spec_string_at}
use Rattle.encoding_agreement.specs.Plain.{plain_spec}
use Rattle.encoding_agreement.specs.Agreement.{Stands, SpecAgreement}

-- a spec number below the count, and past it
module _ (s : List ℕ) (h : Header) (n : ℕ) where
  pub spec-quiet : n < count_of (spec_table s h) → spec_check s h n ≡ silent
  spec-quiet l = quiet spec_number 0 refl (ap not (lt-ltb n (count_of (spec_table s h)) l))

  pub spec-said : count_of (spec_table s h) ≤ n → spec_check s h n ≡ refused spec_number 0
  spec-said l = said refl (ap not (le-ltb n (count_of (spec_table s h)) l))

-- the place of a spec is one of the file
pub stands : (s : List ℕ) (n : ℕ) → opening s ≡ silent → n < count_of (spec_table s (header_of s)) → Stands s (header_of s) n
unfolding index_at
stands s n begun l =
    let h : Header = header_of s in
    let t : List ℕ = spec_table s h in
    let at : ℕ = start_of t n in
    let size : ℕ = length_at t at in
    let closing = (spec-table t).closed n l in
    let ends : at + size < h.spec_size = omega (arith, closing.inside, spec-length s h (whole s begun).inside) in
    let place : header_size + at + size ≡ header_size + (at + size) = omega arith in
    record {
      part = sym (part-of-part s header_size h.spec_size at size (omega arith)) ∙ (spec-table t).part n l;
      closed = ap (byte_at s) place ∙ sym (part_at-byte s header_size h.spec_size (at + size) ends) ∙ closing.zero_byte;
      inside = omega arith;
    }

-- what is told of a number is what the strings tell
spec-plain : (s : List ℕ) (n : ℕ) → spec_told s (header_of s) n ≡ plain_spec s n
unfolding plain_spec
spec-plain s n = go (dec_lt n (count_of t))
  where
    h : Header
    h = header_of s

    t : List ℕ
    t = spec_table s h

    go : Dec (n < count_of t) → spec_told s h n ≡ plain_spec s n
    go (yes l) =
        let known : ltb n (length (strings t)) ≡ true = lt-ltb n (length (strings t)) (omega (arith, strings-counted t)) in
        after-quiet _ (spec-quiet s h n l)
        ∙ sym (rw known (ap₂ (λ p k. answered ((header_size + p) ∷ k ∷ [])) (start-run t n l) (spec-long t n l)))
    go (no l) =
        let past : ltb n (length (strings t)) ≡ false = le-ltb n (length (strings t)) (omega (arith, strings-counted t)) in
        after-said _ (spec-said s h n (omega arith)) ∙ sym (rw past)

pub spec-agrees : SpecAgreement
unfolding spec_string part_after spec_string_at place_after
spec-agrees s n begun =
    let h : Header = header_of s in
    let t : List ℕ = spec_table s h in
    let counted = (spec-table t).counted in
    let at = ap (λ k. place_after k (header_size + place_of t n)) begun in
    record {
      same = after-quiet _ begun ∙ spec-plain s n;
      told = λ l. after-quiet _ begun ∙ after-quiet _ (spec-quiet s h n (omega arith));
      stands = λ l. stands s n begun (omega arith);
      handed = rw begun;
      placed = λ l. at ∙ ap (λ p. header_size + p) (place-there t n (omega arith));
      past = λ l. after-quiet _ begun ∙ after-said _ (spec-said s h n (omega arith));
      none = λ l. at ∙ ap (λ p. header_size + p) (place-past t n (omega arith));
    }
