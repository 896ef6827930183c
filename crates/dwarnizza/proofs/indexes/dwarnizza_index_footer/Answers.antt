-- `dwarnizza::indexes::dwarnizza_index_footer`: what `index_open::read_footer` answers, laid out with the lengths.
use Rattle.crossing.proofs.Laws.{crosses-as}
use Rattle.dwarnizza.proofs.LentLaws.{footer-told}
use Rattle.dwarnizza.proofs.indexes.dwarnizza_index_footer.Goals as goal

pub returns : goal.returns
returns c = crosses-as (footer-told c.args.index.now c.read_footer.result c.read_footer.ensures) c.tell_footer.ensures
