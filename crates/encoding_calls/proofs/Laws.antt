-- What a lookup after the checks tells.
use mathlib.Core.Path.{◌≡◌, refl, sym, ap, ap₂, ◌∙◌}
use mathlib.Core.List.{List, [], ◌∷◌}
use Prim.Native.Nat.{ℕ, ◌<◌}
use native.Mathlib.Decide.{dec_lt}
use native.Mathlib.Omega.{arith}
use lib.ListN.{length}
use borrow.Author.Tests.{eqb-true, not-false}
use Rattle.parts.specs.Part.{part_at}
use Rattle.refusal.specs.Check.{Check, silent, refused, first}
use Rattle.refusal.specs.Number.{encoding_key_length, spec_number}
use Rattle.refusal.specs.Outcome.{Outcome, answered, refusal, after}
use Rattle.refusal.proofs.Laws.{silent-test, first-left, first_said, skip, after-said, after-quiet}
use Rattle.encoding_header.specs.declared.Kind.{Kind}
use Rattle.encoding_header.specs.declared.Kind.TheVariants.{Content, Encoding}
use Rattle.encoding_header.specs.Header.{header_of, table_of, opening}
use Rattle.encoding.specs.Check.{full_check}
use Rattle.encoding_lookup.specs.Lookup.{length_check, lookup_check, content_lookup, encoding_lookup, told_value}
use Rattle.encoding_lookup.specs.Lookup.{spec_at, spec_length, spec_lookup, spec_string, spec_string_at}
use Rattle.encoding_agreement.specs.Plain.{plain_content, plain_encoding, specs_in}
use Rattle.encoding_agreement.specs.Agreement.{SpecAgrees}
use Rattle.encoding_agreement.proofs.Agreement.{content-agrees, encoding-agrees}
use Rattle.encoding_agreement.proofs.Specs.{spec-agrees}
use Rattle.encoding_calls.specs.Calls.{checked_content, checked_encoding, opened_spec, spec_part_at, spec_part}

-- ---- after the full check

-- a key of the kind's key size passes 39
length-right : (s : List ℕ) (kind : Kind) (key : List ℕ) → length_check (header_of s) kind key ≡ silent
    → length key ≡ (table_of (header_of s) kind).key_size
length-right s kind key e = eqb-true _ _ (not-false _ (silent-test _ encoding_key_length 0 e))

-- a lookup that agrees with the plain reading for a key of the right length
checked-told : (s : List ℕ) (kind : Kind) (key : List ℕ) (told plain : Outcome) → full_check s ≡ silent
    → (length key ≡ (table_of (header_of s) kind).key_size → after (lookup_check s kind key) told ≡ plain)
    → after (lookup_check s kind key) told ≡ after (first (full_check s) (length_check (header_of s) kind key)) plain
checked-told s kind key told plain passed same = go (length_check (header_of s) kind key) refl
  where
    go : (k : Check) → length_check (header_of s) kind key ≡ k
        → after (lookup_check s kind key) told ≡ after (first (full_check s) (length_check (header_of s) kind key)) plain
    go silent e = same (length-right s kind key e) ∙ sym (after-quiet _ (skip passed e))
    go (refused n p) e = after-said _ (skip (first-left (opening s) _ passed) e) ∙ sym (after-said _ (skip passed e))

module _ (s key : List ℕ) where
  module _ (passed : full_check s ≡ silent) where
    pub content-checked : content_lookup s key ≡ checked_content s key
    unfolding checked_content table_of
    content-checked = checked-told s Content key _ (plain_content s key) passed (λ size. (content-agrees s passed key size).same)

    pub encoding_checked : encoding_lookup s key ≡ checked_encoding s key
    unfolding checked_encoding table_of
    encoding_checked = checked-told s Encoding key _ (plain_encoding s key) passed (λ size. (encoding-agrees s passed key size).same)

  module _ (n p : ℕ) (e : full_check s ≡ refused n p) where
    pub content-refused : refusal n p ≡ checked_content s key
    unfolding checked_content
    content-refused = sym (after-said _ (first_said _ e))

    pub encoding-refused : refusal n p ≡ checked_encoding s key
    unfolding checked_encoding
    encoding-refused = sym (after-said _ (first_said _ e))

-- ---- a spec by its number, after 30 to 33

module _ (s : List ℕ) (n : ℕ) where
  pub spec-opened : spec_lookup s n ≡ opened_spec s n
  unfolding opened_spec
  spec-opened = go (opening s) refl
    where
      go : (k : Check) → opening s ≡ k → spec_lookup s n ≡ opened_spec s n
      go silent e = (spec-agrees s n e).same ∙ sym (after-quiet _ e)
      go (refused m p) e = after-said _ e ∙ sym (after-said _ e)

  -- the string with a number that was found
  module _ (at count : ℕ) (found : answered (at ∷ count ∷ []) ≡ spec_lookup s n) where
    told-spec : SpecAgrees s n (spec_lookup s n) (spec_string s n) (spec_string_at s n) → Dec (n < length (specs_in s))
        → (spec_string s n ≡ part_at s at count) × (spec_string_at s n ≡ at)
    told-spec a (yes l) =
        let same : answered (at ∷ count ∷ []) ≡ answered (spec_at s (header_of s) n ∷ spec_length s (header_of s) n ∷ []) = found ∙ a.told l in
        let p : at ≡ spec_at s (header_of s) n = cc in
        let q : count ≡ spec_length s (header_of s) n = cc in
        (a.handed ∙ sym (a.stands l).part ∙ ap₂ (part_at s) (sym p) (sym q), a.placed l ∙ sym p)
    told-spec a (no l) =
        let never : answered (at ∷ count ∷ []) ≡ refusal spec_number 0 = found ∙ a.past (omega arith) in
        absurd (let z : ◌≡◌ {A = ℕ} 0 1 = cc in omega arith)

    found-spec : (spec_string s n ≡ part_at s at count) × (spec_string_at s n ≡ at)
    found-spec = go (opening s) refl
      where
        go : (k : Check) → opening s ≡ k → (spec_string s n ≡ part_at s at count) × (spec_string_at s n ≡ at)
        go silent e = told-spec (spec-agrees s n e) (dec_lt n (length (specs_in s)))
        go (refused m p) e =
            let never : answered (at ∷ count ∷ []) ≡ refusal m p = found ∙ after-said _ e in
            absurd (let z : ◌≡◌ {A = ℕ} 0 1 = cc in omega arith)

    pub spec-part-found : spec_string s n ≡ spec_part s n
    unfolding spec_part spec_part_at told_value
    spec-part-found = found-spec.0 ∙ ap (λ o. part_at s (told_value 0 o) (told_value 1 o)) (found ∙ spec-opened)

    pub spec-place-found : spec_string_at s n ≡ spec_part_at s n
    unfolding spec_part_at told_value
    spec-place-found = found-spec.1 ∙ ap (told_value 0) (found ∙ spec-opened)

  -- none after a refusal
  module _ (number place : ℕ) (no : refusal number place ≡ spec_lookup s n) where
    pub spec-part-none : [] ≡ spec_part s n
    unfolding spec_part spec_part_at told_value
    spec-part-none = ap (λ o. part_at s (told_value 0 o) (told_value 1 o)) (no ∙ spec-opened)

    pub spec-place-none : spec_part_at s n ≡ 0
    unfolding spec_part_at told_value
    spec-place-none = sym (ap (told_value 0) (no ∙ spec-opened))
