-- `index_writer::judge`: each refusal in its turn, then the layout.
use mathlib.Core.Path.{◌≡◌, sym, ap, ◌∙◌}
use native.Mathlib.Omega.{arith}
use Rattle.std.proofs.lemmas.Grind.{common_steps}
use Rattle.refusal.specs.Check.{first, refused_if}
use Rattle.refusal.specs.Outcome.{answered, after}
use Rattle.refusal.proofs.Laws.{after-said, after-quiet}
use Rattle.index_open.specs.Open.{layout_values}
use Rattle.index_layout.specs.Layout as layout
use Rattle.index_writer.specs.Write.{list_entry_size, list_count, layout_for, input_check}
use Rattle.index_writer.proofs.Laws.{judged-8, judged-none}
use Rattle.index_writer.proofs.judge.Goals as goal

pub returns-then-not-settings_right : goal.returns-then-not-settings_right
unfolding first refused_if after input_check
returns-then-not-settings_right c = grind (arith, common_steps)

pub returns-then-list-size-ne0 : goal.returns-then-list-size-ne0
unfolding first refused_if after input_check list_entry_size
returns-then-list-size-ne0 c = grind (arith, common_steps)

pub returns-then-entries-gt-MOST_ENTRIES : goal.returns-then-entries-gt-MOST_ENTRIES
unfolding first refused_if after input_check list_entry_size list_count
returns-then-entries-gt-MOST_ENTRIES c = grind (arith, common_steps)

pub returns-then-fall-count : goal.returns-then-fall-count
unfolding list_count list_entry_size
returns-then-fall-count c =
    let a = c.args in
    let size : c.entry_size-size.result ≡ list_entry_size a.settings = c.entry_size-size.ensures.value ∙ ap layout.entry_size c.new.ensures in
    rw c.at-then-fall-count.ensures
    (sym (after-said _ (judged-8 a.settings a.list.now (sym c.settings_right.ensures ∙ c.if-not-settings_right.false) (rw size at c.if-list-size-ne0.false)
    (rw size at c.if-entries-gt-MOST_ENTRIES.false) c.fall-fall.result (rw size at c.fall-fall.ensures) (rw size at c.if-fall-count.true))))

pub returns : goal.returns
unfolding list_count list_entry_size layout_for
returns c =
    let a = c.args in
    let size : c.entry_size-size.result ≡ list_entry_size a.settings = c.entry_size-size.ensures.value ∙ ap layout.entry_size c.new.ensures in
    ap (λ l. answered (layout_values l)) (rw size at c.new-2.ensures)
    ∙ sym (after-quiet _ (judged-none a.settings a.list.now (sym c.settings_right.ensures ∙ c.if-not-settings_right.false) (rw size at c.if-list-size-ne0.false)
    (rw size at c.if-entries-gt-MOST_ENTRIES.false) c.fall-fall.result (rw size at c.fall-fall.ensures) (rw size at c.if-fall-count.false)))
