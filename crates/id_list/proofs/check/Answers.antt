-- `id_list::check`: 12, then 161 for the ids that are left.
use mathlib.Core.Path.{refl, sym, ◌∙◌}
use Rattle.refusal.proofs.Laws.{upto-said, upto-quiet, upto-end}
use Rattle.id_list.specs.Ids.{id_count, fall_check}
use Rattle.id_list.proofs.Laws.{list-cut, list-whole, falls, holds}
use Rattle.id_list.proofs.check.Goals as goal

pub returns-then-ids-ne0 : goal.returns-then-ids-ne0
returns-then-ids-ne0 c = rw c.at.ensures (sym (list-cut c.args.ids.now c.if-ids-ne0.true))

pub loop-i-init : goal.loop-i-init
loop-i-init c = refl

pub returns-then-id_at : goal.returns-then-id_at
returns-then-id_at c =
    let ids = c.args.ids.now in
    let l = c.loop-i in
    let fall = falls ids l.i _ _ c.id_at.ensures c.id_at-in-loop-i.ensures c.if-id_at.true in
    rw c.at-then-id_at.ensures
    (sym (list-whole ids c.if-ids-ne0.false ∙ l.invariant ∙ upto-said (fall_check ids) l.i (id_count ids) c.loop-i-test.true fall))

pub loop-i-preserved : goal.loop-i-preserved
loop-i-preserved c =
    let ids = c.args.ids.now in
    let l = c.loop-i in
    let quiet = holds ids l.i _ _ c.id_at.ensures c.id_at-in-loop-i.ensures c.if-id_at.false in
    l.invariant ∙ upto-quiet (fall_check ids) l.i (id_count ids) c.loop-i-test.true quiet

pub returns : goal.returns
returns c =
    let ids = c.args.ids.now in
    let l = c.loop-i in
    sym (list-whole ids c.if-ids-ne0.false ∙ l.invariant ∙ upto-end (fall_check ids) l.i (id_count ids) c.loop-i-test.false)
