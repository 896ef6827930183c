-- m5 to m8 and m10: root files.
use mathlib.Core.Path.{refl}
use Prim.{tt}
use Rattle.parts.specs.Part.{same_bytes, parts_from}
use Rattle.numbers.specs.Number.{little_at, within}
use Rattle.md5_digest.specs.Message.{little_bytes}
use Rattle.refusal.specs.Check.{refused_if, first, first_from}
use Rattle.refusal.specs.Outcome.{after}
use Rattle.text.specs.Text.{ascii}
use Rattle.root_layout.specs.Layout.{header_size, layout_for}
use Rattle.root_layout.specs.Header.{has_magic, long_numbers, layout_of, header_check, layout_values}
use Rattle.root_block.specs.Ids.{signed, delta_at, id_at, in_range, id_check, ids_check}
use Rattle.root_block.specs.Block.{block_of, block_size, deltas_of, key_at, counts, cut_check, block_check}
use Rattle.root.specs.Root.{blocks_from, blocks_check, root_check}
use Rattle.root.specs.Lookup.{record_at, records_from, records_in, first_of, is_id, wanted, key_told, lookup_of}
use Rattle.examples.specs.Examples.{EachHolds, m5, m6, m7, m8, m10}
use Rattle.examples.proofs.Laws.{each}

pub root-rows : EachHolds m5 × EachHolds m6 × EachHolds m7 × EachHolds m8 × EachHolds m10
unfolding lookup_of key_told first_of wanted is_id records_in records_from record_at root_check blocks_check blocks_from block_check counts key_at deltas_of
    block_size block_of ids_check id_check in_range id_at delta_at signed layout_of layout_values ascii after refused_if first first_from little_bytes
    little_at within same_bytes parts_from
root-rows = (
  each m5 (refl, (refl, (refl, (refl, tt)))),
  each m6 (refl, (refl, tt)),
  each m7 (refl, (refl, tt)),
  each m8 (refl, (refl, (refl, tt))),
  each m10 (refl, (refl, (refl, (refl, (refl, (refl, (refl, (refl, (refl, (refl, tt)))))))))),
)
