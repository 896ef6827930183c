-- The example is computed.
use mathlib.Core.Path.{◌≡◌, refl}
use mathlib.Core.List.{List}
use Prim.Native.Nat.{ℕ}
use lib.ListN.{replicate}
use Rattle.parts.specs.Part.{overlay, same_bytes, all_zero, parts_from}
use Rattle.numbers.specs.Number.{big_at, within}
use Rattle.key.specs.Order.{compared, decided}
use Rattle.md5_block.specs.Block.{addends, shifts, mixed, word_number, turned, step, steps, word, words_of, sum, block, blocks}
use Rattle.md5_digest.specs.Message.{little_bytes, padding as md5_padding, initial, digest_of, md5}
use Rattle.refusal.specs.Check.{silent, refused_if, first, first_from}
use Rattle.text.specs.Text.{ascii}
use Rattle.spec_table.specs.Specs.{run_of, count_of, start_of, before_zero, length_at}
use Rattle.encoding_header.specs.Header.{table_from, header_of, table_of, row_size, page_size, index_size, table_size, index_at, row_at, page_offset}
use Rattle.encoding_header.specs.Header.{page_end, end_of, first_key_at, page_hash, page_of, magic_right, table_right, header_right}
use Rattle.encoding_page.specs.Entries.{key_offset, entry_size, key_at, spec_number_at, padding, ended, turn, walk_by, entries_of, all_entries}
use Rattle.encoding_page.specs.Entries.{walk_from, rising, last_key_before, all, spec_known, starts_with, over_end}
use Rattle.encoding.specs.Check.{key_before, specs_of, hash_right, entry_over, first_key_right}
use Rattle.encoding.specs.Check.{keys_rise, all_specs_known, page_check, pages_check, full_check}
use Rattle.encoding_agreement.specs.Plain.{first_with, plain_reading, plain_told, content_values, plain_content, encoding_values, plain_encoding}
use Rattle.encoding_parts.specs.File.{specs, header, content_entries, first_entries, last_entry, content_index, encoding_index, encoding_file, Example}

passes : full_check encoding_file ≡ silent
unfolding pages_check page_check hash_right entry_over first_key_right keys_rise all_specs_known specs_of key_before
    entries_of key_offset entry_size key_at spec_number_at padding ended turn walk_by walk_from rising last_key_before all spec_known starts_with
    over_end header_right table_right magic_right table_from header_of table_of row_size page_size index_size table_size index_at
    row_at page_offset page_end end_of first_key_at page_hash page_of run_of count_of ascii refused_if first first_from big_at within same_bytes
    all_zero compared decided addends shifts mixed word_number turned step steps word words_of sum block blocks little_bytes
    md5_padding initial digest_of md5 encoding_file
passes = refl

pub example : Example
unfolding plain_content content_values plain_encoding encoding_values plain_told plain_reading first_with all_entries parts_from
    entries_of key_offset entry_size key_at spec_number_at padding ended turn walk_by walk_from table_from header_of table_of row_size
    page_size index_size table_size index_at page_offset page_end run_of ascii big_at same_bytes all_zero start_of before_zero length_at
    encoding_file
example = record { passes = passes; content = refl; no_content = refl; encoding = refl }

-- the parts of the file, each laid over what was there
pub file-laid : (a b c d e f : List ℕ) → a ≡ overlay (replicate 2110 0) 0 header → b ≡ overlay a 22 (run_of specs) → c ≡ overlay b 28 content_index
    → d ≡ overlay c 45 content_entries → e ≡ overlay d 1069 encoding_index → f ≡ overlay (overlay e 1086 first_entries) 1106 last_entry → f ≡ encoding_file
unfolding overlay run_of ascii encoding_file
file-laid a b c d e f p q r s t u = rw (u, t, s, r, q, p)
