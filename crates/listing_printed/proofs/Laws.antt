-- Laws of what is printed: the place of a refusal, how long a line is, and what the listing's answer says.
use mathlib.Core.Path.{◌≡◌, refl, sym, ap, ◌∙◌}
use mathlib.Core.Bool.{Bool, true, false, cond}
use mathlib.Core.List.{List, [], ◌∷◌, ◌++◌}
use Prim.Native.Nat.{ℕ, ◌≤◌, zero-le}
use native.Mathlib.Omega.{arith}
use lib.ListN.{length, length-append}
use borrow.Author.Tests.{le-leb}
use Rattle.refusal.specs.Check.{silent, refused}
use Rattle.refusal.specs.Outcome.{answered, refusal}
use Rattle.refusal.specs.Output.{filled}
use Rattle.refusal.proofs.Laws.{answered-after, refusal-after}
use Rattle.text.specs.Text.{ascii, numbered}
use Rattle.text.proofs.PutLaws.{Put, put_whole}
use Rattle.text.proofs.TextLaws.{decimal-most}
use Rattle.listing.specs.Listing.{text_of, listing_check, listing_outcome, fitted}
use Rattle.listing.proofs.Most.{text-most}
use Rattle.listing_printed.specs.Printed.{has_place, place_text, refusal_line, printed_after, printed}

-- ---- the place of a refusal

module _ (number place : ℕ) (t : Bool) (e : t ≡ has_place number) where
  pub place-told : t ≡ true → numbered " at " place ≡ place_text number place
  unfolding place_text
  place-told h = rw (← e, h)

  pub place-left : t ≡ false → [] ≡ place_text number place
  unfolding place_text
  place-left h = rw (← e, h)

pub line-is : (n number place : ℕ) → n ≡ number → numbered "refused " n ++ place_text number place ++ ascii "\n" ≡ refusal_line number place
unfolding refusal_line
line-is n number place e = rw e

-- ---- how long a line is

place-most : (number place : ℕ) (b : Bool) → b ≡ has_place number → length (place_text number place) ≤ 24
unfolding ascii
place-most number place true e = rw (← place-told number place true e refl) (omega (arith, decimal-most place))
place-most number place false e = rw (← place-left number place false e refl) zero-le

line-most : (number place : ℕ) → length (refusal_line number place) ≤ 53
unfolding refusal_line ascii
line-most number place = simp length-append (omega (arith, decimal-most number, place-most number place (has_place number) refl))

-- ---- what the listing's answer says

module _ (s : List ℕ) (n : ℕ) (e : answered (n ∷ []) ≡ listing_outcome s) where
  quiet-told : (listing_check s ≡ silent) × (n ∷ [] ≡ length (text_of s) ∷ [])
  quiet-told = answered-after (listing_check s) (n ∷ []) (length (text_of s) ∷ []) e

  pub told-length : n ≡ length (printed s)
  unfolding printed printed_after
  told-length =
      let a = quiet-told in
      let same : n ≡ length (text_of s) = cc a.1 in
      same ∙ sym (ap (λ k. length (printed_after k s)) a.0)

  pub told-bytes : (out last : List ℕ) → length out ≡ 655360 → last ≡ fitted (listing_check s) (text_of s) out → last ≡ filled silent (printed s) out
  unfolding printed printed_after fitted
  told-bytes out last room f =
      let a = quiet-told in
      f ∙ ap (λ k. fitted k (text_of s) out) a.0
      ∙ ap (λ b. cond b (filled silent (text_of s) out) out) (le-leb (length (text_of s)) (length out) (omega (arith, text-most s a.0)))
      ∙ sym (ap (λ k. filled silent (printed_after k s) out) a.0)

module _ (s : List ℕ) (number place : ℕ) (e : refusal number place ≡ listing_outcome s) where
  refused-told : listing_check s ≡ refused number place
  refused-told = refusal-after (listing_check s) number place (length (text_of s) ∷ []) e

  line-printed : refusal_line number place ≡ printed s
  unfolding printed printed_after
  line-printed = sym (ap (λ k. printed_after k s) refused-told)

  -- the output is untouched before the line is put
  pub refused-put : (out then last : List ℕ) (to : ℕ) → length out ≡ 655360 → then ≡ fitted (listing_check s) (text_of s) out
      → Put then 0 (refusal_line number place) last to → (to ≡ length (printed s)) × (last ≡ filled silent (printed s) out)
  unfolding filled fitted
  refused-put out then last to room f p =
      let same : then ≡ out = f ∙ ap (λ k. fitted k (text_of s) out) refused-told in
      let most = line-most number place in (
        omega (arith, p.end, ap length line-printed, most),
        put_whole then (refusal_line number place) last to p (omega (arith, ap length same)) ∙ rw (same, line-printed),
      )
