-- `chain_calls::follow`: the theorem of the four answers.
use Rattle.chain_agreement.proofs.Agreement.{chain-agrees}
use Rattle.chain_calls.proofs.follow.Goals as goal

pub returns : goal.returns
returns c =
    let a = c.args in record {
      root_value = (c.check.ensures, c.check-2.ensures);
      index_value = c.check-3.ensures;
      resolved_value = c.resolve.ensures;
      agrees_where_checked = λ l p q e h k. chain-agrees a.root.now a.encoding.now a.index.now a.id a.locale a.unwanted (record {
        root_checked = c.check.result;
        encoding_checked = c.check-2.result;
        index_checked = c.check-3.result;
        resolved = c.resolve.result;
        root_ensures = c.check.ensures;
        encoding_ensures = c.check-2.ensures;
        index_ensures = c.check-3.ensures;
        resolve_ensures = c.resolve.ensures;
        layout = l;
        root_passed = p;
        encoding_passed = q;
        index_passed = e;
        content_keys = h;
        encoding_keys = k;
      });
    }
