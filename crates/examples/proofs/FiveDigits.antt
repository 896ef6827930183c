-- Five digits are no key text.
use native.Mathlib.Omega.{arith}
use Rattle.numbers.proofs.Laws.{within-inside}
use Rattle.index_layout.specs.Layout.{least_key_length, most_key_length}
use Rattle.key_text.proofs.Laws.{text-length-wrong}
use Rattle.text.specs.Text.{ascii}
use Rattle.examples.specs.FiveDigits.{FiveDigits}

pub five-digits : FiveDigits
unfolding ascii
five-digits k l m = text-length-wrong (ascii "00417") k (rw (within-inside least_key_length most_key_length k l m)) (λ e. omega arith)
