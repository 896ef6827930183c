-- The chain by the plain readings alone: each file is read from first to last, nothing is halved and no page is chosen.
use Rattle.std.specs.Prelude.{List, ℕ, get_or}
use Rattle.parts.specs.Part.{part_at}
use Rattle.refusal.specs.Outcome.{Outcome}
use Rattle.root.specs.Lookup.{records, wanted, found_among, key_at}
use Rattle.encoding_header.specs.Header.{header_of}
use Rattle.encoding_agreement.specs.Plain.{plain_content}
use Rattle.index_agreement.specs.Plain.{plain_reading, with_count}
use Rattle.index_agreement.specs.LookupAgrees.{comparisons}
use Rattle.chain.specs.declared.Link.TheVariants.{Root, Encoding, Index}
use Rattle.chain.specs.Chain.{Told, found, linked}

-- All records of a root file: where the content key of the first wanted one stands.
abbrev pub plain_root : List ℕ → (id locale unwanted : ℕ) → Outcome
plain_root s id locale unwanted = found_among (wanted id locale unwanted) (records s)

-- The content key of a record, by what was told of it: its place.
abbrev pub content_key_of : List ℕ → List ℕ → List ℕ
content_key_of s values = key_at s (get_or values 0 0)

-- The first encoding key of a content entry, by what was told of it: it begins the run, whose place is the third value.
abbrev pub first_key_of : List ℕ → List ℕ → List ℕ
first_key_of s values = part_at s (get_or values 2 0) (header_of s).encoding.key_size

-- The index, for an encoding key: the plain reading, with the comparisons of the written rule.
unfoldable pub plain_index_told : List ℕ → List ℕ → Told
plain_index_told s key = linked Index (with_count (plain_reading s key) (comparisons s key)) found

-- All content pages of the encoding file, for a content key; then the index.
unfoldable pub plain_encoding_told : (encoding index key : List ℕ) → Told
plain_encoding_told encoding index key =
    linked Encoding (plain_content encoding key) (λ values. plain_index_told index (first_key_of encoding values))

-- The root file, then the others.
unfoldable pub plain_resolve : (root encoding index : List ℕ) → (id locale unwanted : ℕ) → Told
plain_resolve root encoding index id locale unwanted =
    linked Root (plain_root root id locale unwanted) (λ values. plain_encoding_told encoding index (content_key_of root values))
