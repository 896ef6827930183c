-- What lent output holds at the end: rules G13 and G16.
use Rattle.std.specs.Prelude.{List, ◌++◌, ℕ, ltb, length, drop}
use Rattle.refusal.specs.Check.{Check, silent, refused, refused_if}
use Rattle.refusal.specs.Number.{output_short}

-- 13: the output is shorter than what is to be written (rules I19, I21, I28).
abbrev pub room_check : (needed room : ℕ) → Check
room_check needed room = refused_if (ltb room needed) output_short 0

-- Filled from its start, and bytes past the end of the answer stay (rule G16); after a refusal every byte stays (rule G13).
unfoldable pub filled : Check → List ℕ → List ℕ → List ℕ
filled silent answer output = answer ++ drop (length answer) output
filled (refused number place) answer output = output
