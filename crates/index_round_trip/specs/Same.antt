-- The same file but for the eight bytes of the contents hash: rules I14 and I15.
use Rattle.std.specs.Prelude.{List, ℕ, ◌-◌, length, take}
use Rattle.parts.specs.Part.{overlay}
use Rattle.md5_digest.specs.Message.{md5}
use Rattle.index_layout.specs.declared.Layout.{Layout}
use Rattle.index_layout.specs.Layout.{footer_size, hash_length, layout_of}
use Rattle.index_footer.specs.Footer.{contents_of}
use Rattle.index_writer.specs.declared.Settings.{Settings}

-- The settings of an index: version, W and K (rule I15).
unfoldable pub settings_of : Layout → Settings
settings_of l = record { version = l.version; offset_width = l.offset_width; key_length = l.key_length }

-- The contents hash that the writer puts: the first eight bytes of the hash of last keys and page hashes (rule I14).
abbrev pub contents_hash_of : List ℕ → List ℕ
contents_hash_of s = take hash_length (md5 (contents_of s (layout_of s)))

-- An index with other bytes in place of its contents hash, the first eight of the footer.
abbrev pub with_contents_hash : List ℕ → List ℕ → List ℕ
with_contents_hash s hash = overlay s (length s - footer_size) hash
