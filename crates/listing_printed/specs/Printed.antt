-- What the listing program prints: rules T10 and T11.
use Rattle.std.specs.Prelude.{Bool, ◌||◌, cond, List, [], ◌++◌, ℕ, eqb}
use Rattle.numbers.specs.Number.{within}
use Rattle.refusal.specs.Check.{Check, silent, refused}
use Rattle.refusal.specs.Number.{index_page_hash, last_key, chunk_hash, decoded_size, encoding_page_hash, first_key, block_cut, id_range}
use Rattle.refusal.specs.Number.{hex_digit, footer_version, footer_hash_length, list_falls}
use Rattle.text.specs.Text.{ascii, numbered}
use Rattle.listing.specs.Listing.{listing_check, text_of}

-- Whether a number has a place (rule N1): 6 to 9, 23 to 25, 34 to 37, 40, 41, 61, 102 to 108 and 161.
unfoldable pub has_place : ℕ → Bool
has_place number =
    within number index_page_hash last_key
    || within number chunk_hash decoded_size
    || within number encoding_page_hash first_key
    || within number block_cut id_range
    || eqb number hex_digit
    || within number footer_version footer_hash_length
    || eqb number list_falls

-- The place, where the number has one, also a place 0.
unfoldable pub place_text : ℕ → ℕ → List ℕ
place_text number place = cond (has_place number) (numbered " at " place) []

-- The line of a refusal, as `refused 8 at 3`; without a place it ends after the number (rule T11).
unfoldable pub refusal_line : ℕ → ℕ → List ℕ
refusal_line number place = numbered "refused " number ++ place_text number place ++ ascii "\n"

-- What is printed after a check of the input.
unfoldable pub printed_after : Check → List ℕ → List ℕ
printed_after silent s = text_of s
printed_after (refused number place) s = refusal_line number place

-- Every byte that the program prints for an input (rule T10).
unfoldable pub printed : List ℕ → List ℕ
printed s = printed_after (listing_check s) s
