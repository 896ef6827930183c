-- m1 to m4: archive indexes.
use mathlib.Core.Path.{refl}
use Prim.{tt}
use Rattle.parts.specs.Part.{same_bytes, parts_from}
use Rattle.numbers.specs.Number.{big_at, little_at, within}
use Rattle.key.specs.Order.{compared, decided}
use Rattle.md5_block.specs.Block.{addends, shifts, mixed, word_number, turned, step, steps, word, words_of, sum, block, blocks}
use Rattle.md5_digest.specs.Message.{little_bytes, padding, initial, digest_of, md5}
use Rattle.refusal.specs.Check.{refused_if, first, first_from}
use Rattle.refusal.specs.Outcome.{after}
use Rattle.halving.specs.Halving.{halve, halving, halved_once}
use Rattle.index_layout.specs.Layout.{layout_from, pages_for, entry_size, full, placed_on, on_page, entry_at, last_key_offset, index_length_of}
use Rattle.index_layout.specs.Entries.{size_at, location_at}
use Rattle.index_open.specs.Open.{field_check, fields_check_with, footer_hash_check, footer_check, opening}
use Rattle.index_lookup.specs.Lookup.{stored_in, slot_halved, ended_at, ended_on, page_halved, ended_from, ended, end_outcome, key_check, lookup_of}
use Rattle.index_writer.specs.Write.{list_entry_size, list_count, layout_for, settings_right, key_in_list, list_order_check, input_check, write_check}
use Rattle.examples.specs.Examples.{EachHolds, m1, m2, m3, m4}
use Rattle.examples.proofs.Laws.{each}

pub index-rows : EachHolds m1 × EachHolds m2 × EachHolds m3 × EachHolds m4
unfolding write_check input_check settings_right list_order_check key_in_list layout_for list_count list_entry_size lookup_of key_check end_outcome ended
    ended_from ended_on ended_at page_halved slot_halved stored_in halve halving halved_once size_at location_at layout_from pages_for entry_size full
    placed_on on_page entry_at last_key_offset index_length_of compared decided addends shifts mixed word_number turned step steps word words_of sum block
    blocks little_bytes padding initial digest_of md5 after refused_if first first_from big_at little_at within same_bytes parts_from
index-rows = (
  each m1 (refl, (refl, (refl, (refl, (refl, tt))))),
  each m2 (refl, tt),
  each m3 (refl, tt),
  each m4 (refl, (refl, (refl, (refl, tt)))),
)
