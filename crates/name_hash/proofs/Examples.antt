-- The known values, computed.
use Rattle.std.proofs.Common.{refl}
use Rattle.numbers.specs.Number.{little_at, within}
use Rattle.text.specs.Text.{ascii}
use Rattle.name_hash.specs.Hashlittle.{lines, mix_line, mix, final_line, final, start, added, mixed, hashlittle2}
use Rattle.name_hash.specs.NameHash.{normal_byte, name_hash}
use Rattle.name_hash.specs.Examples.{KnownValues}

pub known_values : KnownValues
unfolding name_hash normal_byte within hashlittle2 mixed added start final final_line mix mix_line lines little_at ascii
known_values = record {
  four_score_c = refl;
  four_score_b = refl;
  backslashes = refl;
  slashes = refl;
  kept_slashes = refl;
  no_bytes = refl;
}
