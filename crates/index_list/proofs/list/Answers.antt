-- `index_list::list`: the full check, then 13, then the list.
use mathlib.Core.Path.{refl, sym, ap, ◌∙◌}
use mathlib.Core.List.{◌∷◌, []}
use native.Mathlib.Nat.{le_of_eq, le_trans}
use lib.ListN.{length}
use borrow.Author.Tests.{lt-ltb, le-ltb}
use Rattle.refusal.specs.Outcome.{answered}
use Rattle.refusal.specs.Output.{filled}
use Rattle.refusal.specs.Number.{output_short}
use Rattle.refusal.proofs.Laws.{said, quiet, first_said, skip, after-said, after-quiet, refusal-after}
use Rattle.index.specs.Check.{full_check}
use Rattle.index_layout.specs.Entries.{list_of}
use Rattle.index_list.specs.List.{list_check}
use Rattle.index_list.proofs.Laws.{passed-list}
use Rattle.index_list.proofs.list.Goals as goal

pub returns-in_err-l-clause-output_after : goal.returns-in_err-l-clause-output_after
unfolding filled list_check
returns-in_err-l-clause-output_after c =
    let s = c.args.index.now in
    sym (ap (λ t. filled t (list_of s) c.args.output.now) (first_said _ (refusal-after (full_check s) _ _ _ c.in_err-l.ensures)))

pub returns-then-output-bytes : goal.returns-then-output-bytes
unfolding filled list_check
returns-then-output-bytes c =
    let s = c.args.index.now in
    let i = passed-list s _ c.entry_size.result c.in_ok-l.ensures c.entry_size.ensures.value in
    let out = c.args.output.now in
    let e = skip i.quiet (said refl (lt-ltb (length out) (length (list_of s)) (rw i.bytes at c.if-output-bytes.true))) in
    record { result_value = rw c.at.ensures (sym (after-said _ e)); output_after = sym (ap (λ t. filled t (list_of s) out) e) }

pub fill-requires : goal.fill-requires
fill-requires c =
    let i = passed-list c.args.index.now _ c.entry_size.result c.in_ok-l.ensures c.entry_size.ensures.value in
    le_trans (le_of_eq (ap length i.list ∙ sym i.bytes)) c.if-output-bytes.false

pub returns : goal.returns
unfolding filled list_check
returns c =
    let s = c.args.index.now in
    let i = passed-list s _ c.entry_size.result c.in_ok-l.ensures c.entry_size.ensures.value in
    let out = c.args.output.now in
    let e = skip i.quiet (quiet output_short 0 refl (le-ltb (length out) (length (list_of s)) (rw i.bytes at c.if-output-bytes.false))) in
    record {
      result_value = ap (λ n. answered (n ∷ [])) i.bytes ∙ sym (after-quiet _ e);
      output_after = c.fill.ensures ∙ rw i.list (sym (ap (λ t. filled t (list_of s) out) e));
    }
