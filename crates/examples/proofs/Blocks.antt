-- How root blocks are laid out.
use mathlib.Core.Path.{refl}
use mathlib.Core.List.{◌++◌}
use Prim.{tt}
use Rattle.parts.specs.Part.{same_bytes, parts_from}
use Rattle.numbers.specs.Number.{little_at, within}
use Rattle.md5_digest.specs.Message.{little_bytes}
use Rattle.refusal.specs.Check.{refused_if, first}
use Rattle.refusal.specs.Outcome.{after}
use Rattle.text.specs.Text.{ascii}
use Rattle.root_layout.specs.Layout.{header_size, layout_for}
use Rattle.root_layout.specs.Header.{has_magic, long_numbers, layout_of, header_check, layout_values}
use Rattle.root_block.specs.Block.{block_of, block_size, key_at, hash_offset}
use Rattle.examples.specs.Blocks.{layout_rows, header_rows, built_rows, block_rows, BlockExamples}
use Rattle.examples.proofs.Laws.{each, ◌then◌}

pub block-examples : BlockExamples
unfolding hash_offset key_at block_size block_of layout_of layout_values ascii after refused_if first little_at within little_bytes same_bytes parts_from
block-examples =
    each layout_rows (refl, (refl, (refl, (refl, tt))))
    then each header_rows (refl, (refl, (refl, (refl, (refl, (refl, (refl, (refl, (refl, tt)))))))))
    then each built_rows (refl, (refl, (refl, tt)))
    then each block_rows
    (refl, (refl, (refl, (refl, (refl, (refl, (refl, (refl, (refl, (refl, (refl, (refl, (refl, (refl, (refl, (refl, tt))))))))))))))))
