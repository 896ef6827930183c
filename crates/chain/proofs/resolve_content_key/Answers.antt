-- `chain::resolve_content_key`: by what the lookup of the content key tells.
use mathlib.Core.Path.{ap, ◌∙◌}
use Rattle.chain.specs.declared.Link.TheVariants.{Encoding}
use Rattle.chain.specs.Chain.{linked, encoding_key, index_told, encoding_told}
use Rattle.chain.proofs.Laws.{first-told}
use Rattle.chain.proofs.resolve_content_key.Goals as goal

pub returns-in-Ok-Some : goal.returns-in-Ok-Some
unfolding linked encoding_told
returns-in-Ok-Some c =
    let a = c.args in
    let content = rw c.in-Ok-Some.field-0-is at c.in-Ok-Some.ensures in
    let key = encoding_key a.encoding.now a.key.now in
    c.resolve_encoding_key.ensures ∙ ap (index_told _) (c.first_key.ensures ∙ first-told _ _ _ _ _ _ content)
    ∙ ap (λ o. linked Encoding o (λ values. index_told a.index.now key)) content

pub returns-in-Ok-None : goal.returns-in-Ok-None
unfolding linked encoding_told
returns-in-Ok-None c =
    let a = c.args in
    let key = encoding_key a.encoding.now a.key.now in
    let content = rw c.in-Ok-None.field-0-is at c.in-Ok-None.ensures in
    c.absent.ensures ∙ ap (λ o. linked Encoding o (λ values. index_told a.index.now key)) content

pub returns-in-Err : goal.returns-in-Err
unfolding linked encoding_told
returns-in-Err c =
    let a = c.args in
    let key = encoding_key a.encoding.now a.key.now in
    rw c.refused.ensures (ap (λ o. linked Encoding o (λ values. index_told a.index.now key)) c.in-Err.ensures)
