-- What the lookups of an encoding file s find, and where the parts lie that are returned: rule E25. Each claim has its own premises
-- (proofs/Specs.antt, proofs/Agreement.antt); the functions of `encoding_calls` ensure it of the calls.
use Rattle.std.specs.Prelude.{◌≡◌, List, [], ◌∷◌, ℕ, ◌+◌, ◌*◌, ◌≤◌, ◌<◌, length}
use Rattle.parts.specs.Part.{byte_at, part_at}
use Rattle.refusal.specs.Check.{silent}
use Rattle.refusal.specs.Number.{spec_number}
use Rattle.refusal.specs.Outcome.{Outcome, answered, refusal}
use Rattle.spec_table.specs.Specs.{strings, spec_of}
use Rattle.encoding_header.specs.declared.Kind.TheVariants.{Content, Encoding}
use Rattle.encoding_header.specs.declared.Header.{Header}
use Rattle.encoding_header.specs.Header.{header_size, header_of, spec_table, index_at, opening}
use Rattle.encoding_page.specs.Entries.{entry_size, spec_number_at}
use Rattle.encoding.specs.Check.{full_check}
use Rattle.encoding_lookup.specs.Lookup.{run_at, run_length, content_lookup, encoding_keys_of, encoding_keys_at, spec_at, spec_length, spec_lookup}
use Rattle.encoding_lookup.specs.Lookup.{spec_string, spec_string_at, encoding_lookup, encoding_spec, encoding_spec_at}
use Rattle.encoding_agreement.specs.Plain.{found, nowhere, plain_reading, plain_content, plain_encoding, specs_in, plain_spec}

-- ---- a spec by its number

-- Spec n stands at its place, in a file with header h: the part there, of its length, is the string with that number in the spec
-- table, and the zero byte that closes it follows, inside the table.
pub record Stands (s : List ℕ) (h : Header) (n : ℕ) : Type 0 where
  pub part : part_at s (spec_at s h n) (spec_length s h n) ≡ spec_of (spec_table s h) n
  pub closed : byte_at s (spec_at s h n + spec_length s h n) ≡ 0
  pub inside : spec_at s h n + spec_length s h n < index_at h Content

-- What asking for spec n answers, and the string that is returned, with the offset in the file where it lies (rules E23, E24).
pub record SpecAgrees (s : List ℕ) (n : ℕ) (answer : Outcome) (string : List ℕ) (place : ℕ) : Type 0 where
  -- It is found exactly where the table has a string with this number, with the place and length that the plain reading of the table gives.
  pub same : answer ≡ plain_spec s n
  pub told : n < length (specs_in s) → answer ≡ answered (spec_at s (header_of s) n ∷ spec_length s (header_of s) n ∷ [])
  pub stands : n < length (specs_in s) → Stands s (header_of s) n
  -- The string with that number; none past the table.
  pub handed : string ≡ spec_of (spec_table s (header_of s)) n
  -- It lies at the told place.
  pub placed : n < length (specs_in s) → place ≡ spec_at s (header_of s) n
  -- Past the table: 38 with place 0; the empty string lies at the table's start.
  pub past : length (specs_in s) ≤ n → answer ≡ refusal spec_number 0
  pub none : length (specs_in s) ≤ n → place ≡ header_size

-- Of any file that passes 30 to 33, and any number.
abbrev pub SpecAgreement : Type 0
SpecAgreement = (s : List ℕ) (n : ℕ) → opening s ≡ silent → SpecAgrees s n (spec_lookup s n) (spec_string s n) (spec_string_at s n)

-- ---- a content key

-- The encoding keys that are returned for the content entry at an offset, in a file with header h, with the offset in the file
-- where they lie (rule E24).
pub record Run (s : List ℕ) (h : Header) (at : ℕ) (keys : List ℕ) (place : ℕ) : Type 0 where
  -- They are the part of the file at the told place, of the told length,
  pub placed : place ≡ run_at h at
  pub part : keys ≡ part_at s (run_at h at) (run_length s h at)
  -- as many as the entry counts, which is one or more,
  pub some : 0 < byte_at s at
  pub count : length keys ≡ byte_at s at * h.encoding.key_size
  -- up to the end of the entry, which stands inside the file.
  pub ends : run_at h at + length keys ≡ at + entry_size s h Content at
  pub inside : at + entry_size s h Content at ≤ length s

-- What the lookup of a content key answers, and the encoding keys that are returned (rules E21, E25).
pub record ContentAgrees (s key : List ℕ) (answer : Outcome) (keys : List ℕ) (place : ℕ) : Type 0 where
  -- Nothing is refused; it is found exactly where the plain reading finds it, with the same values, and absent exactly where that
  -- finds no entry in any page.
  pub same : answer ≡ plain_content s key
  pub run : (at : ℕ) → plain_reading s Content key ≡ found at → Run s (header_of s) at keys place
  -- No keys, at the file's start.
  pub no_run : plain_reading s Content key ≡ nowhere → keys ≡ []
  pub none : plain_reading s Content key ≡ nowhere → place ≡ 0

-- Of any file that passes the full check, and any key of its content key size.
abbrev pub ContentAgreement : Type 0
ContentAgreement =
    (s : List ℕ) → full_check s ≡ silent → (key : List ℕ) → length key ≡ (header_of s).content.key_size
    → ContentAgrees s key (content_lookup s key) (encoding_keys_of s key) (encoding_keys_at s key)

-- ---- an encoding key

-- The spec that is returned for the encoding entry at an offset, in a file with header h, with the offset in the file where it lies
-- (rule E24).
pub record SpecOfEntry (s : List ℕ) (h : Header) (at : ℕ) (spec : List ℕ) (place : ℕ) : Type 0 where
  -- The told spec number has a spec, which stands at the told place,
  pub known : spec_number_at s h at < length (strings (spec_table s h))
  pub stands : Stands s h (spec_number_at s h at)
  -- and is what is returned, where it lies there.
  pub handed : spec ≡ spec_of (spec_table s h) (spec_number_at s h at)
  pub placed : place ≡ spec_at s h (spec_number_at s h at)

-- What the lookup of an encoding key answers, and the spec that is returned (rules E22, E25).
pub record EncodingAgrees (s key : List ℕ) (answer : Outcome) (spec : List ℕ) (place : ℕ) : Type 0 where
  -- As for a content key.
  pub same : answer ≡ plain_encoding s key
  pub entry : (at : ℕ) → plain_reading s Encoding key ≡ found at → SpecOfEntry s (header_of s) at spec place
  -- No spec, at the file's start.
  pub no_spec : plain_reading s Encoding key ≡ nowhere → spec ≡ []
  pub none : plain_reading s Encoding key ≡ nowhere → place ≡ 0

-- Of any file that passes the full check, and any key of its encoding key size.
abbrev pub EncodingAgreement : Type 0
EncodingAgreement =
    (s : List ℕ) → full_check s ≡ silent → (key : List ℕ) → length key ≡ (header_of s).encoding.key_size
    → EncodingAgrees s key (encoding_lookup s key) (encoding_spec s key) (encoding_spec_at s key)
