-- m12: the specs of an encoding file.
use mathlib.Core.Path.{refl}
use Prim.{tt}
use Rattle.parts.specs.Part.{same_bytes}
use Rattle.numbers.specs.Number.{big_at, within}
use Rattle.refusal.specs.Check.{refused_if, first}
use Rattle.refusal.specs.Outcome.{after}
use Rattle.text.specs.Text.{ascii}
use Rattle.spec_table.specs.Specs.{run_of, in_front, strings, count_of, start_of, before_zero, length_at}
use Rattle.encoding_header.specs.Header.{table_from, header_of, table_of, row_size, page_size, index_size}
use Rattle.encoding_header.specs.Header.{table_size, index_at, end_of, magic_right, table_right, header_right, opening}
use Rattle.encoding_lookup.specs.Lookup.{part_after, spec_told, spec_lookup, spec_string}
use Rattle.examples.specs.Examples.{EachHolds, m12}
use Rattle.examples.proofs.Laws.{each}

pub spec-rows : EachHolds m12
unfolding spec_string part_after header_right table_right magic_right end_of index_at table_size index_size
    page_size row_size table_of header_of table_from run_of in_front strings count_of start_of before_zero length_at ascii after refused_if
    first big_at within same_bytes
spec-rows = each m12 (refl, (refl, (refl, tt)))
