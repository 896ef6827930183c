-- `chain::resolve`: by what the root lookup tells.
use mathlib.Core.Path.{ap, ◌∙◌}
use lib.ListN.{replicate}
use Rattle.root.proofs.First.{key-found}
use Rattle.chain.specs.declared.Link.TheVariants.{Root}
use Rattle.chain.specs.Chain.{linked, content_key, encoding_told, resolve}
use Rattle.chain.proofs.resolve.Goals as goal

pub returns-in-Ok-Some : goal.returns-in-Ok-Some
unfolding linked content_key resolve
returns-in-Ok-Some c =
    let a = c.args in
    let key = content_key a.root.now a.id a.locale a.unwanted in
    let root = rw c.in-Ok-Some.field-0-is at c.in-Ok-Some.ensures.answer_value in
    let there = rw c.in-Ok-Some.field-0-is at c.in-Ok-Some.ensures.key_value in
    c.resolve_content_key.ensures ∙ ap (encoding_told _ _) (key-found a.root.now _ (replicate 16 0) _ _ there root)
    ∙ ap (λ o. linked Root o (λ values. encoding_told a.encoding.now a.index.now key)) root

pub returns-in-Ok-None : goal.returns-in-Ok-None
unfolding linked resolve
returns-in-Ok-None c =
    let a = c.args in
    let key = content_key a.root.now a.id a.locale a.unwanted in
    let root = rw c.in-Ok-None.field-0-is at c.in-Ok-None.ensures.answer_value in
    c.absent.ensures ∙ ap (λ o. linked Root o (λ values. encoding_told a.encoding.now a.index.now key)) root

pub returns-in-Err : goal.returns-in-Err
unfolding linked resolve
returns-in-Err c =
    let a = c.args in
    let key = content_key a.root.now a.id a.locale a.unwanted in
    rw c.refused.ensures (ap (λ o. linked Root o (λ values. encoding_told a.encoding.now a.index.now key)) c.in-Err.ensures.answer_value)
