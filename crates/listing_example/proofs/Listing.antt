-- The listing of document 01's index, its hashes checked, and the lines of refusals.
use mathlib.Core.Path.{◌≡◌, refl, ap, ◌∙◌}
use Rattle.numbers.specs.Number.{big_at, little_at, within}
use Rattle.parts.specs.Part.{same_bytes, all_zero, parts_from}
use Rattle.refusal.specs.Check.{silent, refused_if, first, first_from}
use Rattle.md5_block.specs.Block.{addends, shifts, mixed, word_number, turned, step, steps, word, words_of, sum, block, blocks}
use Rattle.md5_digest.specs.Message.{little_bytes, padding, initial, digest_of, md5}
use Rattle.key.specs.Order.{compared, decided}
use Rattle.index_layout.specs.Layout.{layout_from, pages_for, entry_size, full, placed_on, on_page, entry_at, last_key_offset, page_hash_at, index_length_of}
use Rattle.index_open.specs.Open.{field_check, fields_check_with, footer_hash_check, footer_check, opening}
use Rattle.index.specs.Check.{page_hash_check, padding_check, key_before, not_above, order_check, last_key_check, page_check, pages_check, full_check}
use Rattle.index_layout.specs.Entries.{size_at, location_at}
use Rattle.text.specs.Text.{ascii, decimal_digits, hex}
use Rattle.listing_lines.specs.Lines.{header, location_text, entry_line}
use Rattle.listing.specs.Listing.{line, page_text, pages_text, text_by, text_of, listing_check}
use Rattle.examples.specs.Inputs.{one, none}
use Rattle.listing_example.specs.Listing.{Listing}
use Rattle.listing_printed.specs.Printed.{has_place, place_text, refusal_line, printed_after, printed}

-- both indexes pass the full check, their hashes with it
passes : (listing_check one ≡ silent) × (listing_check none ≡ silent)
unfolding full_check pages_check page_check page_hash_check padding_check key_before not_above order_check last_key_check refused_if first first_from
    same_bytes all_zero compared decided layout_from pages_for entry_size full placed_on on_page entry_at last_key_offset page_hash_at index_length_of
    little_at big_at within addends shifts mixed word_number turned step steps word words_of sum block blocks little_bytes padding initial digest_of md5
passes = (refl, refl)

-- their texts
texts : (text_of one ≡ ascii "index key=1 offset=4 entries=1 pages=1\n05 7 - 9\n")
    × (text_of none ≡ ascii "index key=1 offset=4 entries=0 pages=0\n")
unfolding text_by header pages_text page_text line entry_line location_text ascii decimal_digits hex parts_from layout_from pages_for entry_size full
    placed_on on_page entry_at size_at location_at little_at big_at
texts = (refl, refl)

pub listing : Listing
unfolding printed full_check refused_if first printed_after refusal_line place_text has_place within ascii decimal_digits
listing = record {
  one_entry = ap (λ k. printed_after k one) passes.0 ∙ texts.0;
  no_entries = ap (λ k. printed_after k none) passes.1 ∙ texts.1;
  no_bytes = refl;
  with_place = refl;
  place_zero = refl;
  offset_width_seven = refl;
  both_reserved = refl;
  second_reserved = refl;
  without_place = refl;
}
