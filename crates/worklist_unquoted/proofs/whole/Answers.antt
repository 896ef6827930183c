-- `worklist_unquoted::whole`: what is behind the bytes passed decides.
use mathlib.Core.Path.{sym, ◌∙◌}
use borrow.Author.Rules.{rules}
use Rattle.worklist_unquoted.proofs.Laws.{scan-none, not-quoted, scan-all, scan-broken, scan-pair, scan-next}
use Rattle.worklist_unquoted.proofs.whole.Goals as goal
use Rattle.worklist_unquoted.proofs.whole.Goals.{then-closed+else-field-at-ne-QUOTE, else-closed}

pub returns-then-byte-ne-QUOTE : goal.returns-then-byte-ne-QUOTE
returns-then-byte-ne-QUOTE c = not-quoted c.args.field.now (λ e. c.if-byte-ne-QUOTE.true (c.byte.ensures ∙ e))

pub loop-at-init : goal.loop-at-init
loop-at-init c = scan-none c.args.field.now (sym c.byte.ensures ∙ c.if-byte-ne-QUOTE.false)

pub returns-then-field-at-ne-QUOTE : goal.returns-then-field-at-ne-QUOTE
returns-then-field-at-ne-QUOTE c = scan-broken c.loop-at.invariant (search rules) c.if-closed.true c.if-field-at-ne-QUOTE.true

pub loop-at-preserved : goal.loop-at-preserved
loop-at-preserved c =
    let s = c.loop-at.invariant in
    elim c.if-closed.branch [
      | then-closed+else-field-at-ne-QUOTE w ↦ rw w.closed-is (scan-pair s (search rules) w.if-closed.true w.if-field-at-ne-QUOTE.false)
      | else-closed w ↦ rw w.closed-is (scan-next s (search rules) w.if-closed.false)
    ]

pub returns : goal.returns
returns c = scan-all c.loop-at.invariant (search rules)
