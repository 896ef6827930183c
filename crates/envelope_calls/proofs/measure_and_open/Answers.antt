-- `envelope_calls::measure_and_open`: the answers of the two calls, and what they tell of the file.
use Rattle.envelope_calls.proofs.Laws.{what-opened}
use Rattle.envelope_calls.proofs.measure_and_open.Goals as goal

pub returns-clause-by_index : goal.returns-clause-by_index
returns-clause-by_index c = what-opened _ _ _ _ _ c.open-opened.ensures.result_value c.open-opened.ensures.output_after _ c.content_length-length.ensures
