-- Laws of the whole text: what the check's answer says of it, and where it has room.
use mathlib.Core.Path.{◌≡◌, sym, ap, ◌∙◌}
use mathlib.Core.Bool.{cond}
use mathlib.Core.List.{List}
use Prim.Native.Nat.{ℕ, ◌≤◌, ◌<◌}
use native.Mathlib.Omega.{arith}
use lib.ListN.{length}
use borrow.Author.Tests.{le-leb, lt-leb}
use Rattle.refusal.specs.Check.{silent}
use Rattle.refusal.specs.Outcome.{answered, after}
use Rattle.refusal.specs.Output.{filled}
use Rattle.index_layout.specs.declared.Layout.{Layout}
use Rattle.index_layout.specs.Layout.{layout_of, layout_from}
use Rattle.index_open.specs.Open.{layout_values}
use Rattle.refusal.proofs.Laws.{answered-after}
use Rattle.index_open.proofs.Laws.{values_one}
use Rattle.text.proofs.PutLaws.{Put, put_whole}
use Rattle.listing.specs.Listing.{text_by, text_of, listing_check, fitted}
use Rattle.listing.proofs.Most.{listed, text-most}

-- ---- what a passed check says of the text

pub record Listable (s : List ℕ) (l : Layout) : Type 0 where
  pub quiet : listing_check s ≡ silent
  pub width : l.offset_width ≤ 8
  pub whole : text_by s l ≡ text_of s

pub listable : (s : List ℕ) (l : Layout) → answered (layout_values l) ≡ after (listing_check s) (answered (layout_values (layout_of s))) → Listable s l
unfolding layout_from
listable s l e =
    let i = answered-after (listing_check s) _ _ e in
    let is = values_one l (layout_of s) i.1 in
    record {
      quiet = i.0;
      width = omega (arith, ap (λ m. m.offset_width) is, (listed s i.0).1.offset-high);
      whole = ap (text_by s) is;
    }

module _ (s : List ℕ) (l : Layout) (i : Listable s l) (out after : List ℕ) (to : ℕ) (p : Put out 0 (text_by s l) after to) where
  -- its length is told, since no text comes near the last place
  pub measured : to ≡ length (text_of s)
  measured = omega (arith, p.end, ap length i.whole, text-most s i.quiet)

-- ---- the output

pub fitted-whole : (output text after : List ℕ) (to : ℕ) → Put output 0 text after to → length text ≤ length output → after ≡ fitted silent text output
unfolding fitted filled
fitted-whole output text after to p h =
    put_whole output text after to p h ∙ sym (ap (λ b. cond b (filled silent text output) output) (le-leb _ _ h))

pub fitted_none : (output text : List ℕ) → length output < length text → output ≡ fitted silent text output
unfolding fitted
fitted_none output text h = sym (ap (λ b. cond b (filled silent text output) output) (lt-leb _ _ h))
