-- `file_number::read`: a number is told with its own text.
use borrow.Author.Rules.{rules}
use Rattle.file_number.proofs.Decimals.{told_written}
use Rattle.file_number.proofs.read.Goals as goal

pub returns-clause-own_text : goal.returns-clause-own_text
returns-clause-own_text c = told_written _ c.number.result (search rules)
