-- `index_footer::write_footer`: the contents hash, and the fields after it.
use mathlib.Core.Path.{◌∙◌}
use Rattle.index_footer.proofs.Laws.{footer-laid}
use Rattle.index_footer.proofs.write_footer.Goals as goal

pub returns : goal.returns
returns c =
    c.write_fields.ensures ∙ footer-laid c.args.l c.args.output.now _ c.write_contents_hash.ensures
