-- `file_number::digits`: the place of the first byte that is no digit.
use Rattle.std.proofs.Common.{rules, ◌≡◌, ℕ, ◌+◌, true, false, List, ◌∷◌, arith, refl}
use mathlib.Core.Path.{sym, ◌∙◌}
use borrow.Author.Tests.{tests}
use Rattle.std.proofs.lemmas.Iterator.{YieldsList-from_slice, IsFirst-from_position, index_from_first}
use Rattle.numbers.specs.Number.{within}
use Rattle.file_number.specs.FileNumber.{is_digit, digits_of}
use Rattle.file_number.proofs.digits.Goals as goal

none-first : (b : ℕ) (s : List ℕ) → is_digit b ≡ false → digits_of (b ∷ s) ≡ 0
unfolding digits_of
none-first b s e = rw e

one-more : (b : ℕ) (s : List ℕ) → is_digit b ≡ true → digits_of (b ∷ s) ≡ digits_of s + 1
unfolding digits_of
one-more b s e = rw e (omega arith)

pub returns : goal.returns
unfolding within digits_of
returns c =
    let text = c.args.text.now in
    let first = IsFirst-from_position _ _ c.position.result (λ b. is_digit b ≡ false) (λ b. is_digit b ≡ true) c.position.ensures.ran
    (YieldsList-from_slice text cc) (λ x q k. search (rules, tests)) (λ x q k. search (rules, tests)) in
    c.unwrap_or.ensures ∙ sym (index_from_first digits_of _ _ refl none-first one-more text c.position.result first)
