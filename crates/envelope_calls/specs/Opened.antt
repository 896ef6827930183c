-- What opens, of the answers of the calls: rule B17.
use Rattle.std.specs.Prelude.{◌≡◌, true, List, [], ◌∷◌, ℕ, ltb, length, Result}
use Rattle.refusal.specs.Check.{Check, refused_if}
use Rattle.refusal.specs.Number.{content_output_short}
use Rattle.refusal.specs.declared.Refusal.{Refusal}
use Rattle.refusal.specs.Outcome.{answered, after, written_outcome}
use Rattle.refusal.specs.Output.{filled}
use Rattle.envelope_header.specs.Header.{header_of, tabled}
use Rattle.envelope.specs.Content.{joined, Opens, OpensTable}

-- 26, where the output is shorter than the content (rule B13).
abbrev pub room_for : (content output : List ℕ) → Check
room_for content output = refused_if (ltb (length output) (length content)) content_output_short 0

-- A file of which `content_length` answered n, and which `open` was asked to put into output that was `lent` and is `left`. The file
-- is its header and then its chunks, each a mode byte and then its content; n is the length of those contents joined, and they
-- are what the output begins with, where there is room.
pub record Opened (file key lent left : List ℕ) (n : ℕ) (opened : Result ℕ Refusal) : Type 0 where
  pub contents : List (List ℕ)
  pub opens : Opens file key contents
  pub table : tabled (header_of file) ≡ true → OpensTable file contents
  pub measured : n ≡ length (joined contents)
  pub answer : written_outcome opened ≡ after (room_for (joined contents) lent) (answered (n ∷ []))
  pub output : left ≡ filled (room_for (joined contents) lent) (joined contents) lent
