-- `envelope::chunks::check_chunks`: a table, or one chunk.
use mathlib.Core.Path.{sym, ◌∙◌}
use Rattle.envelope_header.specs.Header.{chunk_at}
use Rattle.envelope.proofs.Laws.{single-chunk}
use Rattle.envelope.proofs.chunks.check_chunks.Goals as goal

pub check_mode-requires : goal.check_mode-requires
unfolding chunk_at
check_mode-requires c = c.length.ensures

pub returns : goal.returns
returns c = c.check_mode.ensures ∙ single-chunk _ _ (sym c.tabled.ensures ∙ c.if-tabled.false)
