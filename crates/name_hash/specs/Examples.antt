-- Known values: Jenkins' own test of hashlittle2 (rule R20), and the paths of rule R19.
use Rattle.std.specs.Prelude.{◌≡◌, ℕ, List, []}
use Rattle.text.specs.Text.{ascii}
use Rattle.name_hash.specs.Hashlittle.{hashlittle2}
use Rattle.name_hash.specs.NameHash.{joined, name_hash}

abbrev pub four_score : List ℕ
four_score = ascii "Four score and seven years ago"

pub record KnownValues : Type 0 where
  pub four_score_c : (hashlittle2 four_score).c ≡ 0x17770551
  pub four_score_b : (hashlittle2 four_score).b ≡ 0xce7226e6
  pub backslashes : name_hash (ascii "Interface\\Icons\\INV_Misc_QuestionMark.blp") ≡ 0x9eb59e3c76124837
  pub slashes : name_hash (ascii "Interface/Icons/INV_Misc_QuestionMark.blp") ≡ 0x9eb59e3c76124837
  -- With slashes kept it would be another value than source 004's.
  pub kept_slashes : joined (hashlittle2 (ascii "INTERFACE/ICONS/INV_MISC_QUESTIONMARK.BLP")) ≡ 0xdac7ae3119aff9ca
  pub no_bytes : name_hash [] ≡ 0xdeadbeefdeadbeef
