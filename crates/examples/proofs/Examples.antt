-- The marked examples hold: rules X1 to X12.
use Rattle.examples.specs.Examples.{MarkedExamples}
use Rattle.examples.proofs.Laws.{◌then◌}
use Rattle.examples.proofs.Index.{index-rows}
use Rattle.examples.proofs.NoEntries.{no_entries}
use Rattle.examples.proofs.Root.{root-rows}
use Rattle.examples.proofs.KeyText.{text-rows}
use Rattle.examples.proofs.Envelope.{envelope-rows}
use Rattle.examples.proofs.Encoding.{spec-rows}

pub examples : MarkedExamples
examples = record {
  rows = index-rows.0 then index-rows.1 then index-rows.2 then index-rows.3
      then root-rows.0 then root-rows.1 then root-rows.2 then root-rows.3
      then text-rows then root-rows.4 then envelope-rows then spec-rows;
  no_entries = no_entries;
}
