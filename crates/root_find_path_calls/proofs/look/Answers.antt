-- `root_find_path_calls::look`: the theorem of the three answers.
use Rattle.root_find_path_calls.proofs.Finds.{finds-path}
use Rattle.root_find_path_calls.proofs.look.Goals as goal

pub returns : goal.returns
returns c =
    let a = c.args in
    let check = c.check in
    let hash = c.hash in
    let found = c.find_path in record {
      checked_value = check.ensures;
      hashed_value = hash.ensures;
      answer_value = found.ensures.answer_value;
      by_index = λ h p q. finds-path a.file.now a.path.now h a.locale a.unwanted (record {
        checked = check.result;
        hashed = hash.result;
        looked = found.result;
        check_ensures = check.ensures;
        hash_ensures = hash.ensures;
        lookup_ensures = found.ensures.answer_value;
        key_ensures = found.ensures.key_value;
        passed = p;
        hash_is = q;
      });
    }
