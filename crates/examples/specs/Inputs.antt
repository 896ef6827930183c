-- The inputs of the examples.
use Rattle.std.specs.Prelude.{Bool, cond, List, [], ◌∷◌, ◌++◌, ℕ, ◌+◌, ◌-◌, ◌*◌, eqb, ℤ, pos, negsuc, length, replicate}
use Rattle.parts.specs.Part.{parts_from}
use Rattle.md5_digest.specs.Message.{little_bytes}
use Rattle.text.specs.Text.{ascii}
use Rattle.index_writer.specs.declared.Settings.{Settings}
use Rattle.spec_table.specs.Specs.{run_of}
use Rattle.root_layout.specs.declared.Layout.{Layout}
use Rattle.root_layout.specs.Layout.{no_magic_version, short_version, layout_for}

-- ---- archive index

-- An index of one entry 05, size 7 and location 9, at K 1 and W 4: the page, its last key, its hash, and the footer.
abbrev pub one : List ℕ
one =
    (5 ∷ 0 ∷ 0 ∷ 0 ∷ 7 ∷ 0 ∷ 0 ∷ 0 ∷ 9 ∷ []) ++ replicate 4087 0
    ++ (5 ∷ [])
    ++ (136 ∷ 7 ∷ 150 ∷ 130 ∷ 108 ∷ 230 ∷ 92 ∷ 5 ∷ [])
    ++ (208 ∷ 216 ∷ 178 ∷ 67 ∷ 170 ∷ 35 ∷ 195 ∷ 144 ∷ 0 ∷ 0 ∷ 0 ∷ 4 ∷ 4 ∷ 4 ∷ 1 ∷ 8 ∷ 1 ∷ 0 ∷ 0 ∷ 0 ∷ 2 ∷ 38 ∷ 130 ∷ 101 ∷ 135 ∷ 214 ∷ 199 ∷ 171 ∷ [])

-- An index of no entries.
abbrev pub none : List ℕ
none = 212 ∷ 29 ∷ 140 ∷ 217 ∷ 143 ∷ 0 ∷ 178 ∷ 4 ∷ 0 ∷ 0 ∷ 0 ∷ 4 ∷ 4 ∷ 4 ∷ 1 ∷ 8 ∷ 0 ∷ 0 ∷ 0 ∷ 0 ∷ 24 ∷ 251 ∷ 70 ∷ 41 ∷ 203 ∷ 57 ∷ 225 ∷ 42 ∷ []

-- The settings K 16 and W 4, and a list of n entries, at most 256, whose keys rise.
abbrev pub settings : Settings
settings = record { version = 0; offset_width = 4; key_length = 16 }

abbrev pub entry : ℕ → List ℕ
entry i = replicate 15 0 ++ (i ∷ []) ++ replicate 8 0

abbrev pub list : ℕ → List ℕ
list n = parts_from entry 0 n

-- ---- root file

-- A signed number in four bytes, lowest first; -1 is 4,294,967,295.
abbrev pub signed_bytes : ℤ → List ℕ
signed_bytes (pos n) = little_bytes 4 n
signed_bytes (negsuc n) = little_bytes 4 (4294967295 - n)

abbrev pub delta_bytes : List ℤ → List ℕ
delta_bytes [] = []
delta_bytes (d ∷ ds) = signed_bytes d ++ delta_bytes ds

-- The key and the name hash of record i, if there are any: bytes that tell it.
abbrev pub key : ℕ → List ℕ
key i = replicate 16 i

abbrev pub name_hash : (there : Bool) → ℕ → List ℕ
name_hash there i = cond there (replicate 8 (128 + i)) []

-- The flags of a block in the layout's order, locale flags 1.
abbrev pub content_flags : Layout → (content : ℕ) → List ℕ
content_flags l content = little_bytes (cond l.wide_content 5 4) content

abbrev pub flags : Layout → (content : ℕ) → List ℕ
flags l content =
    cond l.locale_first (little_bytes 4 1 ++ content_flags l content) (content_flags l content ++ little_bytes 4 1)

-- The keys and name hashes of n records, each hash after its key or all after all keys.
abbrev pub keys : Layout → (hashes : Bool) → (n : ℕ) → List ℕ
keys l hashes n =
    cond l.interleaved (parts_from (λ i. key i ++ name_hash hashes i) 0 n) (parts_from key 0 n ++ parts_from (name_hash hashes) 0 n)

-- A block of these deltas under a layout: their count, flags, unknown bytes (zeros), the deltas, keys and name hashes. The content flags
-- are those that drop the name hashes, if the layout has any.
abbrev pub block : Layout → List ℤ → List ℕ
block l deltas =
    little_bytes 4 (length deltas) ++ flags l l.no_hashes
    ++ replicate l.unknown 0
    ++ delta_bytes deltas
    ++ keys l (eqb l.no_hashes 0) (length deltas)

-- The layouts of files without magic, with a short header, and with a long one of a bytes and b = 2.
abbrev pub no_magic : Layout
no_magic = layout_for 0 no_magic_version

abbrev pub short : Layout
short = layout_for 12 short_version

abbrev pub long : ℕ → Layout
long a = layout_for a 2

-- A file of n bytes that begins with a magic and the numbers a and b.
abbrev pub header_of : (n a b : ℕ) → List ℕ
header_of n a b = ascii "MFST" ++ little_bytes 4 a ++ little_bytes 4 b ++ replicate (n - 12) 0

-- A root file with the numbers a and b = 2, which end at byte 12, and a block of these deltas where the layout has the first.
abbrev pub root_with : ℕ → Layout → List ℤ → List ℕ
root_with a l deltas = ascii "MFST" ++ little_bytes 4 a ++ little_bytes 4 2 ++ replicate (l.start - 12) 0 ++ block l deltas

-- With a header of 20 bytes.
abbrev pub root_of : List ℤ → List ℕ
root_of deltas = root_with 20 (long 20) deltas

-- ---- envelope

-- BLTE, size 0, N, A; and its key.
abbrev pub envelope : List ℕ
envelope = ascii "BLTE" ++ replicate 4 0 ++ ascii "NA"

abbrev pub envelope_key_of : List ℕ
envelope_key_of = 62 ∷ 118 ∷ 236 ∷ 113 ∷ 143 ∷ 102 ∷ 218 ∷ 129 ∷ 212 ∷ 227 ∷ 213 ∷ 211 ∷ 0 ∷ 38 ∷ 30 ∷ 20 ∷ []

-- ---- encoding file

-- An encoding file with the specs n and z: its header (key sizes 16, a page of 1 KB of each kind, spec size 4), the spec table,
-- and zeros for the indexes and pages, which asking for a spec by its number does not judge.
abbrev pub encoding_file : List ℕ
encoding_file =
    ascii "EN" ++ (1 ∷ 16 ∷ 16 ∷ 0 ∷ 1 ∷ 0 ∷ 1 ∷ 0 ∷ 0 ∷ 0 ∷ 1 ∷ 0 ∷ 0 ∷ 0 ∷ 1 ∷ 0 ∷ 0 ∷ 0 ∷ 0 ∷ 4 ∷ [])
    ++ run_of (ascii "n" ∷ ascii "z" ∷ [])
    ++ replicate (2 * (16 + 16 + 1024)) 0
