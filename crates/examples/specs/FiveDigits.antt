-- Beside m9: the text 00417 is no key of any length.
use Rattle.std.specs.Prelude.{◌≡◌, ℕ, ◌≤◌}
use Rattle.refusal.specs.Check.{refused}
use Rattle.index_layout.specs.Layout.{least_key_length, most_key_length}
use Rattle.key_text.specs.Text.{text_check}
use Rattle.text.specs.Text.{ascii}

abbrev pub FiveDigits : Type 0
FiveDigits = (k : ℕ) → least_key_length ≤ k → k ≤ most_key_length → text_check (ascii "00417") k ≡ refused 60 0
