-- The header of a root file s: rules R1 to R5 and R11. a is `header_bytes` and b `version`.
use Rattle.std.specs.Prelude.{Bool, ◌&&◌, ◌||◌, cond, List, [], ◌∷◌, ℕ, ltb, eqb, length, Result}
use Rattle.parts.specs.Part.{part_at, same_bytes}
use Rattle.numbers.specs.Number.{little_at, within}
use Rattle.refusal.specs.Check.{Check, refused_if, first}
use Rattle.refusal.specs.Number.{root_header_size, root_header_cut, root_version}
use Rattle.refusal.specs.Outcome.{Outcome, answered, after, outcome_by}
use Rattle.root_layout.specs.declared.Layout.{Layout}
use Rattle.refusal.specs.declared.Refusal.{Refusal}
use Rattle.root_layout.specs.Layout.{no_magic_version, short_version, layout_for}

-- "MFST" or "TSFM" in front (rule R1).
abbrev pub mfst : List ℕ
mfst = 77 ∷ 70 ∷ 83 ∷ 84 ∷ []

abbrev pub tsfm : List ℕ
tsfm = 84 ∷ 83 ∷ 70 ∷ 77 ∷ []

abbrev pub has_magic : List ℕ → Bool
has_magic s = same_bytes (part_at s 0 4) mfst || same_bytes (part_at s 0 4) tsfm

-- The two numbers after it, a and b (rule R3).
abbrev pub header_size_at : ℕ
header_size_at = 4

abbrev pub version_at : ℕ
version_at = 8

abbrev pub header_bytes : List ℕ → ℕ
header_bytes s = little_at s header_size_at 4

abbrev pub version : List ℕ → ℕ
version s = little_at s version_at 4

abbrev pub short_header : ℕ
short_header = 12

-- With a magic, a from 16 to 99 and b from 1 to 4 the header is long and has a bytes (rule R4); otherwise it has 12 (rule R5).
abbrev pub least_long : ℕ
least_long = 16

abbrev pub most_long : ℕ
most_long = 99

abbrev pub least_version : ℕ
least_version = 1

abbrev pub most_version : ℕ
most_version = 4

abbrev pub long_numbers : List ℕ → Bool
long_numbers s = within (header_bytes s) least_long most_long && within (version s) least_version most_version

abbrev pub is_long : List ℕ → Bool
is_long s = has_magic s && long_numbers s

-- Where the blocks begin, and by which version they are laid out: without magic (rule R2), after a long header (rule R4), after a
-- short one (rule R5).
abbrev pub blocks_start : List ℕ → ℕ
blocks_start s = cond (has_magic s) (cond (long_numbers s) (header_bytes s) short_header) 0

abbrev pub blocks_version : List ℕ → ℕ
blocks_version s = cond (has_magic s) (cond (long_numbers s) (version s) short_version) no_magic_version

-- How the blocks are laid out (rules R7, R8, R24).
unfoldable pub layout_of : List ℕ → Layout
layout_of s = layout_for (blocks_start s) (blocks_version s)

-- 43: under 12 bytes with a magic (rule R11).
abbrev pub short_check : List ℕ → Check
short_check s = refused_if (has_magic s && ltb (length s) short_header) root_header_cut 0

-- 44: version 4 (rule R11).
abbrev pub refused_version : ℕ
refused_version = 4

abbrev pub version_check : List ℕ → Check
version_check s = refused_if (is_long s && eqb (version s) refused_version) root_version 0

-- 42: a from 16 to 19 (rule R11).
abbrev pub least_size : ℕ
least_size = 20

abbrev pub size_check : List ℕ → Check
size_check s = refused_if (is_long s && ltb (header_bytes s) least_size) root_header_size 0

-- 43: the file is shorter than a long header (rule R11).
abbrev pub long_check : List ℕ → Check
long_check s = refused_if (is_long s && ltb (length s) (header_bytes s)) root_header_cut 0

-- 43, 44, 42, 43, in this order (rule R11).
abbrev pub header_check : List ℕ → Check
header_check s = first (short_check s) (first (version_check s) (first (size_check s) (long_check s)))

-- The values of a layout, in its order.
unfoldable pub layout_values : Layout → List ℕ
layout_values l =
    l.start
    ∷ cond l.locale_first 1 0
    ∷ cond l.wide_content 1 0
    ∷ l.unknown
    ∷ cond l.interleaved 1 0
    ∷ l.no_hashes
    ∷ []

abbrev pub outcome : Result Layout Refusal → Outcome
outcome = outcome_by layout_values

abbrev pub open_outcome : List ℕ → Outcome
open_outcome s = after (header_check s) (answered (layout_values (layout_of s)))
