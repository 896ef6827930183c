-- `listing::listing`: a refusal as it is; else the text is measured, and put where it has room.
use mathlib.Core.Path.{sym, ap, ◌∙◌}
use mathlib.Core.List.{[], ◌∷◌}
use native.Mathlib.Omega.{arith}
use Rattle.refusal.specs.Outcome.{answered}
use Rattle.refusal.proofs.Laws.{refusal-after, after-quiet}
use Rattle.text.proofs.PutLaws.{told, put_same}
use Rattle.listing.specs.Listing.{text_of, fitted}
use Rattle.listing.proofs.Laws.{listable, measured, fitted-whole, fitted_none}
use Rattle.listing.proofs.listing.Goals as goal

pub returns-in_err-l-clause-output_after : goal.returns-in_err-l-clause-output_after
unfolding fitted
returns-in_err-l-clause-output_after c =
    let s = c.args.input.now in
    sym (ap (λ t. fitted t (text_of s) c.args.output.now) (refusal-after _ _ _ _ c.in_err-l.ensures))

pub put_text-length-requires : goal.put_text-length-requires
put_text-length-requires c = (listable _ _ c.in_ok-l.ensures).width

pub put_text-requires : goal.put_text-requires
put_text-requires c = (listable _ _ c.in_ok-l.ensures).width

pub returns-then-length-output : goal.returns-then-length-output
returns-then-length-output c =
    let s = c.args.input.now in
    let i = listable _ _ c.in_ok-l.ensures in
    let length-is = measured s _ i _ _ _ (told _ _ _ _ _ (c.put_text-length.ensures.value, c.put_text-length.ensures.output_after)) in
    let put = put_same (told _ _ _ _ _ (c.put_text.ensures.value, c.put_text.ensures.output_after)) i.whole in
    let e = sym (ap (λ t. fitted t (text_of s) c.args.output.now) i.quiet) in
    record {
      result_value = ap (λ n. answered (n ∷ [])) length-is ∙ sym (after-quiet _ i.quiet);
      output_after = fitted-whole _ (text_of s) _ _ put (omega (arith, c.if-length-output.true)) ∙ e;
    }

pub returns-else-length-output : goal.returns-else-length-output
returns-else-length-output c =
    let s = c.args.input.now in
    let i = listable _ _ c.in_ok-l.ensures in
    let length-is = measured s _ i _ _ _ (told _ _ _ _ _ (c.put_text-length.ensures.value, c.put_text-length.ensures.output_after)) in
    let e = sym (ap (λ t. fitted t (text_of s) c.args.output.now) i.quiet) in
    record {
      result_value = ap (λ n. answered (n ∷ [])) length-is ∙ sym (after-quiet _ i.quiet);
      output_after = fitted_none _ (text_of s) (omega (arith, c.if-length-output.false)) ∙ e;
    }
