-- The marked examples, rules X1 to X12: one table, and one claim of it. Its rows are about the definitions that the functions'
-- contracts use, with their checks, so they hold of what the functions answer.
use Rattle.std.specs.Prelude.{◌≡◌, ℕ, ◌+◌, ℤ, pos, neg_ℤ, length, replicate}
use mathlib.Core.List.{List, [], ◌∷◌, ◌++◌, map, Memᴰ}
use Rattle.refusal.specs.Check.{silent, refused}
use Rattle.refusal.specs.Outcome.{Outcome, answered, absent, refusal}
use Rattle.refusal.specs.Output.{filled}
use Rattle.index_layout.specs.Layout.{full, layout_with, layout_of}
use Rattle.index_open.specs.Open.{opening}
use Rattle.index_writer.specs.Write.{write_outcome}
use Rattle.index_lookup.specs.Lookup as index
use Rattle.root_layout.specs.declared.Layout.{Layout}
use Rattle.root_layout.specs.Header.{layout_values, open_outcome}
use Rattle.root.specs.Lookup as root
use Rattle.key_text.specs.Text.{text_check, text_bytes, carried}
use Rattle.text.specs.Text.{ascii}
use Rattle.envelope.specs.Envelope as envelopes
use Rattle.encoding_lookup.specs.Lookup.{spec_lookup, spec_string}
use Rattle.examples.specs.Inputs.{one, none, settings, list, short, long, root_with, root_of, envelope, envelope_key_of, encoding_file}

-- A row: what a definition gives, and what the rule says.
pub record Row : Type 1 where
  pub Kind : Type 0
  pub given : Kind
  pub said : Kind

infix 50 ◌is◌
abbrev pub ◌is◌ : {A : Type 0} → A → A → Row
◌is◌ {A} given said = record { Kind = A; given = given; said = said }

-- E, at a key length K and an offset width W.
abbrev pub full_at : (k w : ℕ) → ℕ
full_at k w = full (layout_with 0 w k 0)

-- X1 (m1): E, and the lengths of the files that are written of 0, 1, 170 and 171 entries, into output just as long.
abbrev pub m1 : List Row
m1 =
    (full_at 16 4 is 170)
    ∷ (write_outcome settings (list 0) 28 is answered (28 ∷ []))
    ∷ (write_outcome settings (list 1) 4148 is answered (4148 ∷ []))
    ∷ (write_outcome settings (list 170) 4148 is answered (4148 ∷ []))
    ∷ (write_outcome settings (list 171) 8268 is answered (8268 ∷ []))
    ∷ []

-- X2 (m2): E.
abbrev pub m2 : List Row
m2 = (full_at 9 4 is 240) ∷ []

-- X3 (m3): E.
abbrev pub m3 : List Row
m3 = (full_at 16 6 is 157) ∷ []

-- X4 (m4): an index of the one key 05, and one of none (`NoEntries` below is of every key). A lookup tells page, slot, size, location and comparisons.
abbrev pub m4 : List Row
m4 =
    (index.lookup_of one (5 ∷ []) is answered (0 ∷ 0 ∷ 7 ∷ 9 ∷ 3 ∷ []))
    ∷ (index.lookup_of one (4 ∷ []) is absent (0 ∷ 0 ∷ 0 ∷ 0 ∷ 3 ∷ []))
    ∷ (index.lookup_of one (6 ∷ []) is absent (0 ∷ 0 ∷ 0 ∷ 0 ∷ 1 ∷ []))
    ∷ (index.lookup_of none (5 ∷ []) is absent (0 ∷ 0 ∷ 0 ∷ 0 ∷ 0 ∷ []))
    ∷ []

-- The ids of a root file's records, and the lookup of an id with the locale of their block and no unwanted content. It tells where the
-- key stands: in `root_of` of n deltas the block is at byte 20, and the key of record i at byte 37 + 4n + 16i.
abbrev pub ids : List ℕ → List ℤ
ids s = map (λ r. r.id) (root.records s)

abbrev pub root_lookup : List ℕ → ℕ → Outcome
root_lookup s id = root.lookup_of s id 1 0

-- X5 (m5): three deltas, and where each id is found.
abbrev pub m5 : List Row
m5 =
    (ids (root_of (pos 5 ∷ pos 0 ∷ pos 0 ∷ [])) is (pos 5 ∷ pos 6 ∷ pos 7 ∷ []))
    ∷ (root_lookup (root_of (pos 5 ∷ pos 0 ∷ pos 0 ∷ [])) 5 is answered (49 ∷ []))
    ∷ (root_lookup (root_of (pos 5 ∷ pos 0 ∷ pos 0 ∷ [])) 6 is answered (65 ∷ []))
    ∷ (root_lookup (root_of (pos 5 ∷ pos 0 ∷ pos 0 ∷ [])) 7 is answered (81 ∷ []))
    ∷ []

-- X6 (m6): an id that comes twice: the first is found.
abbrev pub m6 : List Row
m6 =
    (ids (root_of (pos 5 ∷ neg_ℤ (pos 1) ∷ [])) is (pos 5 ∷ pos 5 ∷ []))
    ∷ (root_lookup (root_of (pos 5 ∷ neg_ℤ (pos 1) ∷ [])) 5 is answered (45 ∷ []))
    ∷ []

-- X7 (m7): ids below 0. The place is the block's.
abbrev pub m7 : List Row
m7 =
    (root_lookup (root_of (pos 0 ∷ neg_ℤ (pos 2) ∷ [])) 0 is refusal 41 20)
    ∷ (root_lookup (root_of (neg_ℤ (pos 1) ∷ [])) 0 is refusal 41 20)
    ∷ []

-- X8 (m8): the greatest id, and one above it.
abbrev pub m8 : List Row
m8 =
    (ids (root_of (pos 2147483647 ∷ pos 2147483647 ∷ [])) is (pos 2147483647 ∷ pos 4294967295 ∷ []))
    ∷ (root_lookup (root_of (pos 2147483647 ∷ pos 2147483647 ∷ [])) 4294967295 is answered (61 ∷ []))
    ∷ (root_lookup (root_of (pos 2147483647 ∷ pos 2147483647 ∷ pos 0 ∷ [])) 4294967295 is refusal 41 20)
    ∷ []

-- X9 (m9): two digits and one, for a key of one byte. Sixteen bytes carry the key, zeros past its own.
abbrev pub m9 : List Row
m9 =
    (text_check (ascii "00") 1 is silent)
    ∷ (text_bytes (ascii "00") is (0 ∷ []))
    ∷ (carried (ascii "00") 1 is replicate 16 0)
    ∷ (text_check (ascii "0") 1 is refused 60 0)
    ∷ []

-- What is told of a file with this layout.
abbrev pub laid_out : Layout → Outcome
laid_out l = answered (layout_values l)

-- X10 (m10): short headers, a refused one and long ones: how the blocks are laid out, and where the lookup of
-- id 5 finds the key of a block that stands right after that header.
abbrev pub m10 : List Row
m10 =
    (open_outcome (root_with 15 short (pos 5 ∷ [])) is laid_out short)
    ∷ (open_outcome (root_with 100 short (pos 5 ∷ [])) is laid_out short)
    ∷ (open_outcome (root_with 16 (long 16) (pos 5 ∷ [])) is refusal 42 0)
    ∷ (open_outcome (root_with 20 (long 20) (pos 5 ∷ [])) is laid_out (long 20))
    ∷ (open_outcome (root_with 99 (long 99) (pos 5 ∷ [])) is laid_out (long 99))
    ∷ (root_lookup (root_with 15 short (pos 5 ∷ [])) 5 is answered (28 ∷ []))
    ∷ (root_lookup (root_with 100 short (pos 5 ∷ [])) 5 is answered (28 ∷ []))
    ∷ (root_lookup (root_with 16 (long 16) (pos 5 ∷ [])) 5 is refusal 42 0)
    ∷ (root_lookup (root_with 20 (long 20) (pos 5 ∷ [])) 5 is answered (41 ∷ []))
    ∷ (root_lookup (root_with 99 (long 99) (pos 5 ∷ [])) 5 is answered (120 ∷ []))
    ∷ []

-- X11 (m11): an envelope without a table. Opening it tells one byte, and output of one byte is A then.
abbrev pub m11 : List Row
m11 =
    (envelopes.content envelope is ascii "A")
    ∷ (envelopes.open_outcome envelope envelope_key_of 1 is answered (1 ∷ []))
    ∷ (filled (envelopes.open_check envelope envelope_key_of 1) (envelopes.content envelope) (0 ∷ []) is ascii "A")
    ∷ []

-- X12 (m12): a table of two specs. Asking by number tells place and length in the file.
abbrev pub m12 : List Row
m12 =
    (spec_lookup encoding_file 1 is answered (24 ∷ 1 ∷ []))
    ∷ (spec_string encoding_file 1 is ascii "z")
    ∷ (spec_lookup encoding_file 2 is refusal 38 0)
    ∷ []

-- The table.
abbrev pub table : List Row
table = m1 ++ m2 ++ m3 ++ m4 ++ m5 ++ m6 ++ m7 ++ m8 ++ m9 ++ m10 ++ m11 ++ m12

-- The claim: in each row the definition gives what the rule says.
pub record EachHolds (rows : List Row) : Type 1 where
  pub holds : (row : Row) → Memᴰ row rows → row.given ≡ row.said

-- X4 for any index of no entries: every key of K bytes is absent, and no key is compared.
abbrev pub NoEntries : Type 0
NoEntries =
    (s sought : List ℕ) → opening s ≡ silent → (layout_of s).entries ≡ 0 → length sought ≡ (layout_of s).key_length
    → index.lookup_of s sought ≡ absent (0 ∷ 0 ∷ 0 ∷ 0 ∷ 0 ∷ [])

pub record MarkedExamples : Type 1 where
  pub rows : EachHolds table
  pub no_entries : NoEntries
