-- Lookups in an encoding file that passes the full check agree with the plain reading, as specs/Agreement.antt states it.
use mathlib.Core.Path.{◌≡◌, refl, ap, ◌∙◌}
use mathlib.Core.Bool.{Bool, true, false}
use mathlib.Core.List.{List}
use Prim.Native.Nat.{ℕ, ◌+◌, ◌≤◌, ◌<◌}
use native.Mathlib.Omega.{arith}
use borrow.Author.Tests.{leb-true, ltb-true, le-leb, lt-ltb, eqb-false}
use lib.Dec.{ltb, leb}
use lib.ListN.{length}
use Rattle.parts.specs.Part.{byte_at}
use Rattle.parts.proofs.Laws.{part_at-inside}
use Rattle.refusal.specs.Check.{silent}
use Rattle.refusal.proofs.Laws.{first-left, first-right, after-quiet}
use Rattle.spec_table.specs.Specs.{count_of}
use Rattle.spec_table.proofs.Table.{spec-table}
use Rattle.encoding_header.specs.declared.Kind.{Kind}
use Rattle.encoding_header.specs.declared.Kind.TheVariants.{Content, Encoding}
use Rattle.encoding_header.specs.declared.Header.{Header}
use Rattle.encoding_header.specs.Header.{header_of, table_of, page_end, spec_table, opening}
use Rattle.encoding_header.proofs.Laws.{whole, page-end}
use Rattle.encoding_page.specs.Entries.{entry_size, ended, spec_number_at, spec_known, all_entries}
use Rattle.encoding_page.proofs.Laws.{entry-left, entry-inside, content-ended}
use Rattle.encoding_page.proofs.AllEntries.{every-page, page-all}
use Rattle.encoding.specs.Check.{specs_of, pages_check, full_check}
use Rattle.encoding_lookup.specs.Lookup.{lookup_check, run_at, run_length, content_told, content_lookup, told_value, place_told, part_told}
use Rattle.encoding_lookup.specs.Lookup.{encoding_keys_of, encoding_keys_at, encoding_told, encoding_lookup, encoding_spec, encoding_spec_at}
use Rattle.encoding_lookup.proofs.Laws.{key_right}
use Rattle.encoding_agreement.specs.Plain.{Plain, found, plain_reading, plain_told, content_values, plain_content, encoding_values, plain_encoding}
use Rattle.encoding_agreement.specs.Agreement.{Run, ContentAgrees, ContentAgreement, SpecOfEntry, EncodingAgrees, EncodingAgreement}
use Rattle.encoding_agreement.proofs.Entries.{all_found}
use Rattle.encoding_agreement.proofs.Checked.{specs-known}
use Rattle.encoding_agreement.proofs.Search.{search-told}
use Rattle.encoding_agreement.proofs.Specs.{spec-quiet, stands}

module _ (s : List ℕ) (kind : Kind) (key : List ℕ) (begun : opening s ≡ silent) where
  unrefused : length key ≡ (table_of (header_of s) kind).key_size → lookup_check s kind key ≡ silent
  unrefused size = key_right s kind key (header_of s) (table_of (header_of s) kind) begun refl refl size

  -- what holds of every entry before the end of a page holds of the one that the plain reading finds
  found-holds : (test : ℕ → Bool)
      → ((i : ℕ) → i < (table_of (header_of s) kind).pages → (at : ℕ) → ended s (header_of s) kind (page_end (header_of s) kind i) at ≡ false → test at ≡ true)
      → (at : ℕ) → plain_reading s kind key ≡ found at → test at ≡ true
  unfolding plain_reading
  found-holds test holds at f =
      let h : Header = header_of s in
      all_found test _ key (all_entries s h kind) (every-page test s h kind (λ i l. page-all test s h kind i (holds i l))) at f

  -- that entry ends inside the file
  found_inside : (at : ℕ) → plain_reading s kind key ≡ found at → at + entry_size s (header_of s) kind at ≤ length s
  unfolding page_end
  found_inside at f =
      let h : Header = header_of s in
      leb-true _ _
      (found-holds (λ x. leb (x + entry_size s h kind x) (length s))
      (λ i l x t. le-leb (x + entry_size s h kind x) (length s) (omega (arith, entry-inside s h kind _ x t, page-end h kind i l, (whole s begun).inside)))
      at f)

-- a content entry counts one key or more
found_some : (s key : List ℕ) (at : ℕ) → opening s ≡ silent → plain_reading s Content key ≡ found at → 0 < byte_at s at
found_some s key at begun f =
    let h : Header = header_of s in
    ltb-true _ _
    (found-holds s Content key begun (λ x. ltb 0 (byte_at s x))
    (λ i l x t.
    let none : byte_at s x ≡ 0 → ⊥ = eqb-false _ _ (content-ended s h Content _ x (byte_at s x) refl (entry-left s h Content _ x t) refl ∙ t) in
    lt-ltb 0 (byte_at s x) (omega arith))
    at f)

module _ (s : List ℕ) (passed : full_check s ≡ silent) where
  begun : opening s ≡ silent
  begun = first-left _ _ passed

  content-silent : pages_check s (header_of s) Content ≡ silent
  content-silent = first-left _ _ (first-right (opening s) _ passed)

  encoding-silent : pages_check s (header_of s) Encoding ≡ silent
  encoding-silent = first-right (pages_check s (header_of s) Content) _ (first-right (opening s) _ passed)

  module _ (key : List ℕ) (size : length key ≡ (header_of s).content.key_size) where
    content-same : content_lookup s key ≡ plain_content s key
    unfolding plain_content plain_reading content_values table_of
    content-same =
        after-quiet _ (unrefused s Content key begun size)
        ∙ search-told s (header_of s) Content (content_told s (header_of s)) (content_values s (header_of s)) content-silent key (λ at f. refl)

    content-told : {p : Plain} → plain_reading s Content key ≡ p → content_lookup s key ≡ plain_told (content_values s (header_of s)) p
    unfolding plain_content
    content-told f = content-same ∙ ap (plain_told (content_values s (header_of s))) f

    run : (at : ℕ) → plain_reading s Content key ≡ found at → Run s (header_of s) at (encoding_keys_of s key) (encoding_keys_at s key)
    unfolding plain_told content_values entry_size told_value encoding_keys_of encoding_keys_at
    run at f =
        let h : Header = header_of s in
        let part = ap (part_told s) (content-told f) in
        let inside = found_inside s Content key begun at f in
        let count : length (encoding_keys_of s key) ≡ run_length s h at = ap length part ∙ part_at-inside s (run_at h at) (run_length s h at) (omega arith) in
        record {
          placed = ap place_told (content-told f);
          part = part;
          some = found_some s key at begun f;
          count = count;
          ends = omega arith;
          inside = inside;
        }

    pub content-agrees : ContentAgrees s key (content_lookup s key) (encoding_keys_of s key) (encoding_keys_at s key)
    unfolding plain_told told_value encoding_keys_of encoding_keys_at
    content-agrees = record {
      same = content-same;
      run = run;
      no_run = λ f. ap (part_told s) (content-told f);
      none = λ f. ap place_told (content-told f);
    }

  module _ (key : List ℕ) (size : length key ≡ (header_of s).encoding.key_size) where
    number-known : (at : ℕ) → plain_reading s Encoding key ≡ found at → spec_number_at s (header_of s) at < count_of (spec_table s (header_of s))
    unfolding plain_reading spec_known specs_of
    number-known at f =
        let h : Header = header_of s in
        ltb-true _ _
        (all_found (spec_known s h Encoding (specs_of s h)) _ key (all_entries s h Encoding)
        (every-page _ s h Encoding (specs-known s h Encoding encoding-silent))
        at f)

    encoding-same : encoding_lookup s key ≡ plain_encoding s key
    unfolding plain_encoding plain_reading encoding_values table_of
    encoding-same =
        let h : Header = header_of s in
        after-quiet _ (unrefused s Encoding key begun size)
        ∙ search-told s h Encoding (encoding_told s h) (encoding_values s h) encoding-silent key
        (λ at f. after-quiet _ (spec-quiet s h _ (number-known at f)))

    encoding-told : {p : Plain} → plain_reading s Encoding key ≡ p → encoding_lookup s key ≡ plain_told (encoding_values s (header_of s)) p
    unfolding plain_encoding
    encoding-told f = encoding-same ∙ ap (plain_told (encoding_values s (header_of s))) f

    entry : (at : ℕ) → plain_reading s Encoding key ≡ found at → SpecOfEntry s (header_of s) at (encoding_spec s key) (encoding_spec_at s key)
    unfolding plain_told encoding_values told_value encoding_spec encoding_spec_at
    entry at f =
        let h : Header = header_of s in
        let there = stands s (spec_number_at s h at) begun (number-known at f) in
        record {
          known = omega (arith, number-known at f, (spec-table (spec_table s h)).counted);
          stands = there;
          handed = ap (part_told s) (encoding-told f) ∙ there.part;
          placed = ap place_told (encoding-told f);
        }

    pub encoding-agrees : EncodingAgrees s key (encoding_lookup s key) (encoding_spec s key) (encoding_spec_at s key)
    unfolding plain_told told_value encoding_spec encoding_spec_at
    encoding-agrees = record {
      same = encoding-same;
      entry = entry;
      no_spec = λ f. ap (part_told s) (encoding-told f);
      none = λ f. ap place_told (encoding-told f);
    }

-- the two claims
pub content-agreement : ContentAgreement
content-agreement s passed key size = content-agrees s passed key size

pub encoding-agreement : EncodingAgreement
encoding-agreement s passed key size = encoding-agrees s passed key size
