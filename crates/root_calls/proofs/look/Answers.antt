-- `root_calls::look`: the theorem of the two answers.
use Rattle.root_records.proofs.Records.{finds-number}
use Rattle.root_calls.proofs.look.Goals as goal

pub returns : goal.returns
returns c =
    let a = c.args in
    let check = c.check in
    let lookup = c.lookup in record {
      checked_value = check.ensures;
      answer_value = lookup.ensures.answer_value;
      finds_number = λ p. finds-number a.file.now a.id a.locale a.unwanted (record {
        checked = check.result;
        looked = lookup.result;
        check_ensures = check.ensures;
        lookup_ensures = lookup.ensures.answer_value;
        key_ensures = lookup.ensures.key_value;
        passed = p;
      });
    }
