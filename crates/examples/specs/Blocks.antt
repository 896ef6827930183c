-- How root blocks are laid out, in literals: rules R4, R5, R7, R8, R11 and R24. These rows stand beside the marked examples, whose
-- blocks are built by their layout.
use Rattle.std.specs.Prelude.{true, false, List, [], ◌∷◌, ◌++◌, ℕ, pos, replicate}
use Rattle.refusal.specs.Outcome.{refusal}
use Rattle.root_layout.specs.declared.Layout.{Layout}
use Rattle.root_layout.specs.Layout.{header_size, layout_for}
use Rattle.root_layout.specs.Header.{open_outcome, layout_values}
use Rattle.root_block.specs.declared.Block.{Block}
use Rattle.root_block.specs.Block.{block_of, block_size, key_at, hash_offset}
use Rattle.examples.specs.Inputs.{block, no_magic, short, long, header_of}
use Rattle.examples.specs.Examples.{Row, ◌is◌, laid_out, EachHolds}

-- A block of three records with these content flags: none, bit 13, bit 28.
abbrev pub three_with : ℕ → Block
three_with content = record { count = 3; locale = 1; content = content }

abbrev pub three : Block
three = three_with 0

abbrev pub three13 : Block
three13 = three_with 8192

abbrev pub three28 : Block
three28 = three_with 268435456

-- A layout with content flags of five bytes, and a block header under it: count 3, locale flags 2, content flags 1, 2, 3, 4, 5.
abbrev pub wide : Layout
wide = record { start = 0; locale_first = true; wide_content = true; unknown = 0; interleaved = false; no_hashes = 0 }

abbrev pub wide_header : List ℕ
wide_header = (3 ∷ 0 ∷ 0 ∷ 0 ∷ []) ++ (2 ∷ 0 ∷ 0 ∷ 0 ∷ []) ++ (1 ∷ 2 ∷ 3 ∷ 4 ∷ 5 ∷ [])

-- What is told of a layout: where the blocks begin; locale flags first (1) or not; content flags of five bytes (1) or four; unknown
-- bytes; name hashes each after its key (1) or all after all keys; the content flags that drop them.
abbrev pub layout_rows : List Row
layout_rows =
    (layout_values no_magic is (0 ∷ 0 ∷ 0 ∷ 0 ∷ 1 ∷ 0 ∷ []))
    ∷ (layout_values short is (12 ∷ 0 ∷ 0 ∷ 0 ∷ 0 ∷ 268435456 ∷ []))
    ∷ (layout_values (layout_for 20 1) is (20 ∷ 0 ∷ 0 ∷ 0 ∷ 0 ∷ 268435456 ∷ []))
    ∷ (layout_values (long 20) is (20 ∷ 1 ∷ 0 ∷ 5 ∷ 0 ∷ 268435456 ∷ []))
    ∷ []

-- Files of 100 bytes, and one of 98, with the numbers a and b: b = 1 means a long header as 2 and 3 do, and 0 and 5 mean a short one.
abbrev pub header_rows : List Row
header_rows =
    (open_outcome (header_of 100 15 1) is laid_out short)
    ∷ (open_outcome (header_of 100 16 1) is refusal 42 0)
    ∷ (open_outcome (header_of 100 19 1) is refusal 42 0)
    ∷ (open_outcome (header_of 100 20 1) is laid_out (layout_for 20 1))
    ∷ (open_outcome (header_of 100 99 1) is laid_out (layout_for 99 1))
    ∷ (open_outcome (header_of 98 99 1) is refusal 43 0)
    ∷ (open_outcome (header_of 100 100 1) is laid_out short)
    ∷ (open_outcome (header_of 100 20 0) is laid_out short)
    ∷ (open_outcome (header_of 100 20 5) is laid_out short)
    ∷ []

-- A block of one record with id 5, byte by byte: with its name hash, and without.
abbrev pub built_rows : List Row
built_rows =
    (block no_magic (pos 5 ∷ [])
    is ((1 ∷ 0 ∷ 0 ∷ 0 ∷ []) ++ (0 ∷ 0 ∷ 0 ∷ 0 ∷ []) ++ (1 ∷ 0 ∷ 0 ∷ 0 ∷ []) ++ (5 ∷ 0 ∷ 0 ∷ 0 ∷ []) ++ replicate 16 0 ++ replicate 8 128))
    ∷ (block short (pos 5 ∷ [])
    is ((1 ∷ 0 ∷ 0 ∷ 0 ∷ []) ++ (0 ∷ 0 ∷ 0 ∷ 16 ∷ []) ++ (1 ∷ 0 ∷ 0 ∷ 0 ∷ []) ++ (5 ∷ 0 ∷ 0 ∷ 0 ∷ []) ++ replicate 16 0))
    ∷ (block (long 20) (pos 5 ∷ [])
    is ((1 ∷ 0 ∷ 0 ∷ 0 ∷ []) ++ (1 ∷ 0 ∷ 0 ∷ 0 ∷ []) ++ (0 ∷ 0 ∷ 0 ∷ 16 ∷ []) ++ replicate 5 0 ++ (5 ∷ 0 ∷ 0 ∷ 0 ∷ []) ++ replicate 16 0))
    ∷ []

-- Without magic: header 12, deltas 12, then 24 bytes for each record; the name hash of record 1 is the last 8 of its 24. Short header:
-- header 12, deltas 12, three keys, then the name hashes. Long header of version 2: the same after a header of 17. With a magic bit 28
-- drops the name hashes, 24 bytes here, and bit 13 does not. Five bytes of content flags are one number, and the header has 13 bytes.
abbrev pub block_rows : List Row
block_rows =
    (key_at no_magic three 1 is 48)
    ∷ (hash_offset no_magic three 1 is 64)
    ∷ (block_size no_magic three is 96)
    ∷ (block_size no_magic three28 is 96)
    ∷ (key_at short three 1 is 40)
    ∷ (hash_offset short three 1 is 80)
    ∷ (block_size short three is 96)
    ∷ (block_size short three13 is 96)
    ∷ (block_size short three28 is 72)
    ∷ (key_at (long 20) three 1 is 45)
    ∷ (hash_offset (long 20) three 1 is 85)
    ∷ (block_size (long 20) three is 101)
    ∷ (block_size (long 20) three13 is 101)
    ∷ (block_size (long 20) three28 is 77)
    ∷ (header_size wide is 13)
    ∷ (block_of wide wide_header is record { count = 3; locale = 2; content = 21542142465 })
    ∷ []

abbrev pub BlockExamples : Type 1
BlockExamples = EachHolds (layout_rows ++ header_rows ++ built_rows ++ block_rows)
