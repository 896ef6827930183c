-- How the blocks of a root file are laid out, as a value: rules R7, R8 and R24.
use Rattle.std.specs.Prelude.{true, false, cond, ℕ, ◌+◌, eqb}
use Rattle.root_layout.specs.declared.Layout.{Layout}

-- The bytes of a block header's count and locale flags, of its content flags (four; no file of today has five), and of the unknown
-- bytes after them, 4 and 1.
abbrev pub count_size : ℕ
count_size = 4

abbrev pub locale_size : ℕ
locale_size = 4

abbrev pub narrow_content_size : ℕ
narrow_content_size = 4

abbrev pub wide_content_size : ℕ
wide_content_size = 5

abbrev pub unknown_size : ℕ
unknown_size = 5

abbrev pub content_size : Layout → ℕ
content_size l = cond l.wide_content wide_content_size narrow_content_size

-- Where the flags stand in a block: after the count, in one order or the other.
abbrev pub locale_at : Layout → ℕ
locale_at l = cond l.locale_first count_size (count_size + content_size l)

abbrev pub content_at : Layout → ℕ
content_at l = cond l.locale_first (count_size + locale_size) count_size

-- The bytes of a block header, after which the deltas stand.
abbrev pub header_size : Layout → ℕ
header_size l = count_size + locale_size + content_size l + l.unknown

-- Content bit 28: with a magic, a block that has it has no name hashes (rules R8, R24).
abbrev pub no_name_hashes : ℕ
no_name_hashes = 268435456

-- Without a magic: count, content flags, locale flags, deltas, then for each record key and name hash (rule R7).
abbrev pub without_magic : ℕ → Layout
without_magic start = record { start = start; locale_first = false; wide_content = false; unknown = 0; interleaved = true; no_hashes = 0 }

-- Version 1: count, content flags, locale flags, deltas, all keys, then all name hashes unless content bit 28 is set (rule R24).
abbrev pub version1 : ℕ → Layout
version1 start = record { start = start; locale_first = false; wide_content = false; unknown = 0; interleaved = false; no_hashes = no_name_hashes }

-- Versions 2 and 3: count, locale flags, content flags, 4 and 1 unknown bytes, deltas, all keys, then all name hashes unless content
-- bit 28 is set (rule R8).
abbrev pub version2 : ℕ → Layout
version2 start = record { start = start; locale_first = true; wide_content = false; unknown = unknown_size; interleaved = false; no_hashes = no_name_hashes }

-- The version that the blocks of a file without magic are laid out by (rule R2), which no long header has, and that of a file with a
-- short header (rule R5).
abbrev pub no_magic_version : ℕ
no_magic_version = 0

abbrev pub short_version : ℕ
short_version = 1

-- The layout of blocks of a version that begin at a byte.
abbrev pub layout_for : (start version : ℕ) → Layout
layout_for start version =
    cond (eqb version no_magic_version) (without_magic start) (cond (eqb version short_version) (version1 start) (version2 start))
