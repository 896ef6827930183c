-- The example of the listing, whole (rule T12), and the lines of refusals (rules T11, I16).
use Rattle.std.specs.Prelude.{◌≡◌, List, [], ◌∷◌, ◌++◌, ℕ, replicate}
use Rattle.text.specs.Text.{ascii}
use Rattle.listing_printed.specs.Printed.{refusal_line, printed}
use Rattle.examples.specs.Inputs.{one, none}

-- A footer with these bytes from version to hash length, and zeros around them.
abbrev pub with_fields : List ℕ → List ℕ
with_fields fields = replicate 8 0 ++ fields ++ replicate 12 0

pub record Listing : Type 0 where
  pub one_entry : printed one ≡ ascii "index key=1 offset=4 entries=1 pages=1\n05 7 - 9\n"
  pub no_entries : printed none ≡ ascii "index key=1 offset=4 entries=0 pages=0\n"
  pub no_bytes : printed [] ≡ ascii "refused 1\n"
  pub with_place : refusal_line 8 3 ≡ ascii "refused 8 at 3\n"
  pub place_zero : refusal_line 6 0 ≡ ascii "refused 6 at 0\n"
  pub offset_width_seven : printed (with_fields (1 ∷ 0 ∷ 0 ∷ 4 ∷ 7 ∷ 4 ∷ 16 ∷ 8 ∷ [])) ≡ ascii "refused 105 at 12\n"
  pub both_reserved : printed (with_fields (1 ∷ 1 ∷ 1 ∷ 4 ∷ 4 ∷ 4 ∷ 16 ∷ 8 ∷ [])) ≡ ascii "refused 103 at 9\n"
  pub second_reserved : printed (with_fields (1 ∷ 0 ∷ 1 ∷ 4 ∷ 4 ∷ 4 ∷ 16 ∷ 8 ∷ [])) ≡ ascii "refused 103 at 10\n"
  pub without_place : refusal_line 70 0 ≡ ascii "refused 70\n"
