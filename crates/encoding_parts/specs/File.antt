-- A small encoding file that passes the full check, so that rule E25 speaks of something: key sizes 1, a page of 1 KB of each kind.
use Rattle.std.specs.Prelude.{◌≡◌, List, [], ◌∷◌, ◌++◌, ℕ, ◌-◌, length, replicate}
use Rattle.refusal.specs.Check.{silent}
use Rattle.refusal.specs.Outcome.{answered, absent}
use Rattle.spec_table.specs.Specs.{run_of}
use Rattle.encoding_header.specs.Header.{kb}
use Rattle.encoding.specs.Check.{full_check}
use Rattle.encoding_agreement.specs.Plain.{plain_content, plain_encoding}
use Rattle.text.specs.Text.{ascii}

-- The specs n, n and z; the numbers 0 and 1 have equal ones.
abbrev pub specs : List (List ℕ)
specs = ascii "n" ∷ ascii "n" ∷ ascii "z" ∷ []

abbrev pub header : List ℕ
header = ascii "EN" ++ (1 ∷ 1 ∷ 1 ∷ 0 ∷ 1 ∷ 0 ∷ 1 ∷ 0 ∷ 0 ∷ 0 ∷ 1 ∷ 0 ∷ 0 ∷ 0 ∷ 1 ∷ 0 ∷ 0 ∷ 0 ∷ 0 ∷ 6 ∷ [])

-- A page of 1 KB with these entries.
abbrev pub page_with : List ℕ → List ℕ
page_with entries = entries ++ replicate (kb - length entries) 0

-- Content keys 5, of size 3 with the encoding key 17, and 7, of size 256 with the encoding keys 33 and 34.
abbrev pub content_entries : List ℕ
content_entries = 1 ∷ 0 ∷ 0 ∷ 0 ∷ 0 ∷ 3 ∷ 5 ∷ 17 ∷ 2 ∷ 0 ∷ 0 ∷ 0 ∷ 1 ∷ 0 ∷ 7 ∷ 33 ∷ 34 ∷ []

-- Encoding keys 17 with spec 1, 33 with spec 0, 34 with spec 2, of sizes 12, 265 and 200.
abbrev pub first_entries : List ℕ
first_entries = 17 ∷ 0 ∷ 0 ∷ 0 ∷ 1 ∷ 0 ∷ 0 ∷ 0 ∷ 0 ∷ 12 ∷ 33 ∷ 0 ∷ 0 ∷ 0 ∷ 0 ∷ 0 ∷ 0 ∷ 0 ∷ 1 ∷ 9 ∷ []

abbrev pub last_entry : List ℕ
last_entry = 34 ∷ 0 ∷ 0 ∷ 0 ∷ 2 ∷ 0 ∷ 0 ∷ 0 ∷ 0 ∷ 200 ∷ []

-- First key and MD5 of each page.
abbrev pub content_index : List ℕ
content_index = 5 ∷ 224 ∷ 80 ∷ 123 ∷ 26 ∷ 156 ∷ 133 ∷ 241 ∷ 254 ∷ 42 ∷ 66 ∷ 184 ∷ 78 ∷ 62 ∷ 212 ∷ 19 ∷ 197 ∷ []

abbrev pub encoding_index : List ℕ
encoding_index = 17 ∷ 28 ∷ 212 ∷ 106 ∷ 187 ∷ 34 ∷ 43 ∷ 250 ∷ 243 ∷ 10 ∷ 213 ∷ 7 ∷ 84 ∷ 75 ∷ 234 ∷ 98 ∷ 7 ∷ []

unfoldable pub encoding_file : List ℕ
encoding_file = header ++ run_of specs ++ content_index ++ page_with content_entries ++ encoding_index ++ page_with (first_entries ++ last_entry)

-- What holds of it (proofs/Example.antt): it passes the full check, and the plain reading finds its keys. A content key tells size,
-- number of encoding keys, place and length of their run; an encoding key tells spec number, size, place and length of the spec.
pub record Example : Type 0 where
  pub passes : full_check encoding_file ≡ silent
  pub content : plain_content encoding_file (7 ∷ []) ≡ answered (256 ∷ 2 ∷ 60 ∷ 2 ∷ [])
  pub no_content : plain_content encoding_file (6 ∷ []) ≡ absent []
  pub encoding : plain_encoding encoding_file (17 ∷ []) ≡ answered (1 ∷ 12 ∷ 24 ∷ 1 ∷ [])
