-- The chain from a file number to its place in an archive: rules C1 to C7.
use Rattle.std.specs.Prelude.{List, [], ◌∷◌, ◌++◌, ℕ, get_or, take, replicate, Result, Ok, Err}
use Rattle.parts.specs.Part.{part_at}
use Rattle.refusal.specs.Number.{number_of}
use Rattle.refusal.specs.Outcome.{Outcome, answered, absent, refusal}
use Rattle.root.specs.Lookup as root_file
use Rattle.encoding_header.specs.Header.{header_of, opening}
use Rattle.encoding_lookup.specs.Lookup.{content_lookup, part_after, encoding_keys_of}
use Rattle.index_lookup.specs.Lookup as index_file
use Rattle.index_lookup.specs.Lookup.{values}
use Rattle.index_lookup.specs.declared.Entry.{Entry}
use Rattle.chain.specs.declared.Link.{Link}
use Rattle.chain.specs.declared.Link.TheVariants.{Root, Encoding, Index}
use Rattle.chain.specs.declared.Resolved.{Resolved}
use Rattle.chain.specs.declared.LinkRefusal.{LinkRefusal}

-- The links: root 1, encoding 2, index 3 (rule C1).
abbrev pub link_number : Link → ℕ
link_number Root = 1
link_number Encoding = 2
link_number Index = 3

-- What the chain tells: the values of the index lookup (rule C5); the link that was absent, with the comparisons there (rule
-- C6); or the link that refused, with number and place (rule C7).
pub data Told : Type 0 where
  found : (values : List ℕ) → Told
  absent_at : (link compared : ℕ) → Told
  refused_at : (link number place : ℕ) → Told

-- The comparisons that a lookup tells: the fifth value of an index lookup; the other lookups tell none (rule C6).
abbrev pub compared_in : List ℕ → ℕ
compared_in values = get_or values 4 0

-- What is told after a link's own lookup: the later links are followed where it found (rule C1).
unfoldable pub linked : Link → Outcome → (List ℕ → Told) → Told
linked link (answered values) later = later values
linked link (absent values) later = absent_at (link_number link) (compared_in values)
linked link (refusal number place) later = refused_at (link_number link) number place

-- The content key that the root file has for a file number.
unfoldable pub content_key : List ℕ → (id locale unwanted : ℕ) → List ℕ
content_key s id locale unwanted = root_file.key_or s (replicate 16 0) (root_file.lookup_of s id locale unwanted)

-- The first key of the run at a place of an encoding file that opens.
unfoldable pub first_of : List ℕ → (at length : ℕ) → List ℕ
first_of s at length = part_after (opening s) (take (header_of s).encoding.key_size (part_at s at length))

-- The encoding key that is followed: the first of the entry's run (rule C4).
unfoldable pub encoding_key : List ℕ → List ℕ → List ℕ
encoding_key s key = take (header_of s).encoding.key_size (encoding_keys_of s key)

-- The index link, for an encoding key. Where its size is not K, that is 10 (rule C4).
unfoldable pub index_told : List ℕ → List ℕ → Told
index_told s key = linked Index (index_file.lookup_of s key) found

-- The encoding link, then the index, for a content key (rule C3).
unfoldable pub encoding_told : (encoding index key : List ℕ) → Told
encoding_told encoding index key = linked Encoding (content_lookup encoding key) (λ values. index_told index (encoding_key encoding key))

-- The root link, then the others (rules C1, C2).
unfoldable pub resolve : (root encoding index : List ℕ) → (id locale unwanted : ℕ) → Told
resolve root encoding index id locale unwanted =
    linked Root (root_file.lookup_of root id locale unwanted) (λ values. encoding_told encoding index (content_key root id locale unwanted))

-- What the declared answers tell.
abbrev pub told_with : ℕ → Result Entry Link → Told
told_with compared (Ok e) = found (values e ++ compared ∷ [])
told_with compared (Err link) = absent_at (link_number link) compared

abbrev pub found_told : Resolved → Told
found_told r = told_with r.compared r.found

abbrev pub told : Result Resolved LinkRefusal → Told
told (Ok r) = found_told r
told (Err r) = refused_at (link_number r.link) (number_of r.refusal.reason) r.refusal.place
