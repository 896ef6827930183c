-- A block of a root file under a layout: rules R7, R8, R12, R14 and R24. The bytes b begin with the block.
use Rattle.std.specs.Prelude.{Bool, not, ◌&&◌, cond, List, ℕ, ◌+◌, ◌*◌, ltb, eqb, length}
use Rattle.std.specs.Int.Bits.{bit_and}
use Rattle.parts.specs.Part.{part_at}
use Rattle.numbers.specs.Number.{little_at}
use Rattle.refusal.specs.Check.{Check, refused_if, first}
use Rattle.refusal.specs.Number.{block_cut}
use Rattle.root_layout.specs.declared.Layout.{Layout}
use Rattle.root_layout.specs.Layout.{count_size, locale_size, content_size, locale_at, content_at, header_size}
use Rattle.root_block.specs.declared.Block.{Block}
use Rattle.root_block.specs.Ids.{delta_size, ids_check}

-- The bytes of a key and of a name hash.
abbrev pub size_of_key : ℕ
size_of_key = 16

abbrev pub name_hash_size : ℕ
name_hash_size = 8

-- What the header says: count, locale flags and content flags.
unfoldable pub block_of : Layout → List ℕ → Block
block_of l b = record {
  count = little_at b 0 count_size;
  locale = little_at b (locale_at l) locale_size;
  content = little_at b (content_at l) (content_size l);
}

-- A block has name hashes unless a content bit drops them (rules R8, R24).
abbrev pub block_has_hashes : Layout → Block → Bool
block_has_hashes l k = eqb (bit_and k.content l.no_hashes) 0

-- The bytes that a record's name hash takes.
abbrev pub hash_size : Layout → Block → ℕ
hash_size l k = cond (block_has_hashes l k) name_hash_size 0

-- The bytes of a block: header, deltas, keys and name hashes (rules R7, R8, R24).
unfoldable pub block_size : Layout → Block → ℕ
block_size l k = header_size l + (delta_size + size_of_key + hash_size l k) * k.count

-- The bytes of the deltas.
unfoldable pub deltas_of : Layout → List ℕ → List ℕ
deltas_of l b = part_at b (header_size l) (delta_size * (block_of l b).count)

-- Where the key of record i stands: after the deltas, with its name hash (rule R7) or with the keys alone (rules R8, R24).
abbrev pub keys_at : Layout → Block → ℕ
keys_at l k = header_size l + delta_size * k.count

unfoldable pub key_at : Layout → Block → ℕ → ℕ
key_at l k i = keys_at l k + cond l.interleaved (size_of_key + hash_size l k) size_of_key * i

-- Where its name hash stands, where the block has them: after its key or after all keys.
unfoldable pub hash_offset : Layout → Block → ℕ → ℕ
hash_offset l k i = cond l.interleaved (key_at l k i + size_of_key) (keys_at l k + size_of_key * k.count + name_hash_size * i)

-- A block counts if it shares a locale bit and no unwanted bit (rule R14).
unfoldable pub counts : (locale unwanted : ℕ) → Block → Bool
counts locale unwanted k = not (eqb (bit_and k.locale locale) 0) && eqb (bit_and k.content unwanted) 0

-- 40: the file ends before the block does (rule R12).
abbrev pub cut_check : Layout → List ℕ → ℕ → Check
cut_check l b place = refused_if (ltb (length b) (block_size l (block_of l b))) block_cut place

-- A block at a place of its file: 40, 41 (rule R12).
unfoldable pub block_check : Layout → List ℕ → ℕ → Check
block_check l b place = first (cut_check l b place) (ids_check (deltas_of l b) (block_of l b).count place)
