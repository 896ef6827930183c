-- m11: an envelope.
use mathlib.Core.Path.{refl}
use Prim.{tt}
use Rattle.parts.specs.Part.{same_bytes, parts_from}
use Rattle.numbers.specs.Number.{big_at}
use Rattle.md5_block.specs.Block.{addends, shifts, mixed, word_number, turned, step, steps, word, words_of, sum, block, blocks}
use Rattle.md5_digest.specs.Message.{little_bytes, padding, initial, digest_of, md5}
use Rattle.refusal.specs.Check.{refused_if, first, first_from}
use Rattle.refusal.specs.Outcome.{after}
use Rattle.refusal.specs.Output.{filled}
use Rattle.text.specs.Text.{ascii}
use Rattle.envelope_header.specs.Header.{header_of, chunk_count, header_length, encoded_size, chunk_at, magic_right, header_right, empty_check, sizes_check, opening}
use Rattle.envelope.specs.Envelope.{content_by, keyed, envelope_key_check, hash_check, mode_check, decoded_check, chunk_check, chunks_check, content_check, open_check}
use Rattle.examples.specs.Examples.{EachHolds, m11}
use Rattle.examples.proofs.Laws.{each}

pub envelope-rows : EachHolds m11
unfolding chunks_check keyed content_by
    sizes_check empty_check header_right magic_right chunk_at encoded_size header_length chunk_count header_of ascii filled after refused_if
    first first_from addends shifts mixed word_number turned step steps word words_of sum block blocks little_bytes padding initial
    digest_of md5 big_at same_bytes parts_from
envelope-rows = each m11 (refl, (refl, (refl, tt)))
