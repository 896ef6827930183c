-- `envelope::chunks::fill`: the output begins with the content of the chunks so far.
use mathlib.Core.Path.{◌≡◌}
use mathlib.Core.List.{◌++◌}
use Prim.Native.Nat.{◌≤◌}
use lib.ListN.{length, drop}
use Rattle.parts.specs.Part.{parts_from}
use Rattle.envelope_header.specs.Header.{chunk_count, chunk_at}
use Rattle.envelope.specs.Envelope.{content_of}
use Rattle.envelope.proofs.chunks.fill.Given as goal

abbrev pub invariant-loop-i : goal.invariant-loop-i
invariant-loop-i l =
    (l.i ≤ chunk_count l.h) × (l.at ≡ chunk_at l.file l.h l.i) × (l.to ≡ length (parts_from (content_of l.file l.h) 0 l.i))
    × (l.output ≡ parts_from (content_of l.file l.h) 0 l.i ++ drop (length (parts_from (content_of l.file l.h) 0 l.i)) l.initial.output)
