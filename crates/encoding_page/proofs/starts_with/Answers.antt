-- `encoding_page::starts_with`: the next entry is the first, or there is none.
use mathlib.Core.Path.{sym, ◌∙◌}
use native.Mathlib.Omega.{arith}
use Rattle.encoding_page.specs.Entries.{key_at}
use Rattle.encoding_page.proofs.Laws.{key-inside, entry-inside, starts_none, starts_first}
use Rattle.encoding_page.proofs.starts_with.Goals as goal

pub returns-then-ended : goal.returns-then-ended
returns-then-ended c = starts_none _ _ _ _ _ _ c.next-at.ensures _ (sym c.ended.ensures ∙ c.if-ended.true)

pub overflow_add-at : goal.overflow_add-at
overflow_add-at c =
    let a = c.args in
    let key = key-inside a.file.now a.h a.kind c.next-at.result in
    let entry = sym c.ended.ensures ∙ c.if-ended.false in
    omega (arith, c.key_offset.ensures, key, entry-inside _ _ _ _ _ entry)

pub returns : goal.returns
unfolding key_at
returns c =
    let entry = sym c.ended.ensures ∙ c.if-ended.false in
    starts_first _ _ _ _ _ _ c.next-at.ensures _ _ _ entry
    (c.part.ensures.result_value ∙ rw (c.key_offset.ensures, c.from.ensures, c.key_size.ensures)) c.same.ensures
