-- `encoding_lookup::seek_key`: by what the search of the page tells.
use mathlib.Core.Path.{refl}
use Rattle.encoding_lookup.proofs.Laws.{seek-none, seek-at, seek-over, seek-nowhere}
use Rattle.encoding_lookup.proofs.seek_key.Goals as goal

pub returns-then-pages-eq0-clause-value : goal.returns-then-pages-eq0-clause-value
returns-then-pages-eq0-clause-value c = seek-none _ _ _ _ _ c.pages_up_to-pages.ensures c.if-pages-eq0.true

pub returns-then-over-clause-value : goal.returns-then-over-clause-value
returns-then-over-clause-value c =
    rw c.at.ensures
    (seek-over _ _ _ _ _ c.pages_up_to-pages.ensures c.if-pages-eq0.false _ _ c.page_end-end.ensures c.page_at.ensures _
    c.in-Err.ensures.value _ refl _ c.over.ensures c.if-over.true)

pub returns-in-Ok-clause-value : goal.returns-in-Ok-clause-value
returns-in-Ok-clause-value c =
    seek-at _ _ _ _ _ c.pages_up_to-pages.ensures c.if-pages-eq0.false _ _ c.page_end-end.ensures c.page_at.ensures _ c.in-Ok.ensures.value _ refl

pub returns-else-over-clause-value : goal.returns-else-over-clause-value
returns-else-over-clause-value c =
    seek-nowhere _ _ _ _ _ c.pages_up_to-pages.ensures c.if-pages-eq0.false _ _ c.page_end-end.ensures c.page_at.ensures _
    c.in-Err.ensures.value _ refl _ c.over.ensures c.if-over.false
