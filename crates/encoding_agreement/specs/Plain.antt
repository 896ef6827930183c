-- The plain reading of an encoding file s, of all pages of a kind, from the first to the last, entry by entry: rule E25. An
-- entry is told by its offset in s.
use Rattle.std.specs.Prelude.{cond, List, [], ◌∷◌, ℕ, ◌+◌, ltb, length, take, get_or}
use Rattle.parts.specs.Part.{byte_at, same_bytes}
use Rattle.numbers.specs.Number.{big_at}
use Rattle.refusal.specs.Number.{spec_number}
use Rattle.refusal.specs.Outcome.{Outcome, answered, absent, refusal}
use Rattle.spec_table.specs.Specs.{run_of, strings}
use Rattle.encoding_header.specs.declared.Kind.{Kind}
use Rattle.encoding_header.specs.declared.Kind.TheVariants.{Content, Encoding}
use Rattle.encoding_header.specs.declared.Header.{Header}
use Rattle.encoding_header.specs.Header.{header_size, header_of, spec_table}
use Rattle.encoding_page.specs.Entries.{count_width, size_width, spec_width, key_at, spec_number_at, all_entries}
use Rattle.encoding_lookup.specs.Lookup.{run_at, run_length, spec_at, spec_length}

-- What the plain reading finds: an entry, or none.
pub data Plain : Type 0 where
  found : (at : ℕ) → Plain
  nowhere : Plain

-- The first of some entries whose whole key is the sought one.
unfoldable pub first_with : (ℕ → List ℕ) → List ℕ → List ℕ → Plain
first_with key sought [] = nowhere
first_with key sought (at ∷ entries) = cond (same_bytes (key at) sought) (found at) (first_with key sought entries)

-- The plain reading for a sought key.
unfoldable pub plain_reading : List ℕ → Kind → List ℕ → Plain
plain_reading s kind sought = first_with (key_at s (header_of s) kind) sought (all_entries s (header_of s) kind)

-- What is told: the values of the entry that it finds, and where it finds none that the key is absent. Nothing is refused.
unfoldable pub plain_told : (ℕ → List ℕ) → Plain → Outcome
plain_told values (found at) = answered (values at)
plain_told values nowhere = absent []

-- Of a content entry: decoded size, number of encoding keys, place and length of their run.
unfoldable pub content_values : List ℕ → Header → ℕ → List ℕ
content_values s h at = big_at s (at + count_width) size_width ∷ byte_at s at ∷ run_at h at ∷ run_length s h at ∷ []

unfoldable pub plain_content : List ℕ → List ℕ → Outcome
plain_content s sought = plain_told (content_values s (header_of s)) (plain_reading s Content sought)

-- Of an encoding entry: spec number, encoded size, place and length of the spec.
unfoldable pub encoding_values : List ℕ → Header → ℕ → List ℕ
encoding_values s h at =
    spec_number_at s h at
    ∷ big_at s (at + h.encoding.key_size + spec_width) size_width
    ∷ spec_at s h (spec_number_at s h at)
    ∷ spec_length s h (spec_number_at s h at)
    ∷ []

unfoldable pub plain_encoding : List ℕ → List ℕ → Outcome
plain_encoding s sought = plain_told (encoding_values s (header_of s)) (plain_reading s Encoding sought)

-- The specs of a file, in the order of their numbers.
abbrev pub specs_in : List ℕ → List (List ℕ)
specs_in s = strings (spec_table s (header_of s))

-- Of spec n: place and length. Before it stand the specs of lower numbers, each with its zero byte. Past the last one it is 38.
unfoldable pub plain_spec : List ℕ → ℕ → Outcome
plain_spec s n =
    cond (ltb n (length (specs_in s)))
    (answered ((header_size + length (run_of (take n (specs_in s)))) ∷ length (get_or (specs_in s) n []) ∷ []))
    (refusal spec_number 0)
