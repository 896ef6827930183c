-- The name hash of a path: rules R19 and R21.
use Rattle.std.specs.Prelude.{ℕ, ◌+◌, ◌-◌, ◌*◌, ◌^◌, cond, List, [], ◌∷◌, map, length, ◌==◌, nat_lt, Result}
use Rattle.numbers.specs.Number.{within}
use Rattle.refusal.specs.Check.{Check, refused_if}
use Rattle.refusal.specs.Number.{path_length}
use Rattle.refusal.specs.Outcome.{Outcome, answered, after, outcome_by}
use Rattle.refusal.specs.declared.Refusal.{Refusal}
use Rattle.name_hash.specs.declared.Words.{Words}
use Rattle.name_hash.specs.Hashlittle.{hashlittle2}

-- a to z as capitals, a slash as a backslash, and every other byte as it is (rule R19).
unfoldable pub normal_byte : ℕ → ℕ
normal_byte b = cond (within b 97 122) (b - 32) (cond (b == 47) 92 b)

-- The bytes of a path as they are hashed (rule R19).
abbrev pub normalized : List ℕ → List ℕ
normalized path = map normal_byte path

-- c as the upper 32 bits, b as the lower (rule R19).
abbrev pub joined : Words → ℕ
joined w = w.c * 2 ^ 32 + w.b

unfoldable pub name_hash : List ℕ → ℕ
name_hash path = joined (hashlittle2 (normalized path))

-- 110: the path has more than 1,024 bytes (rule R21).
abbrev pub most_path : ℕ
most_path = 1024

abbrev pub path_check : List ℕ → Check
path_check path = refused_if (nat_lt most_path (length path)) path_length 0

abbrev pub hash_outcome : List ℕ → Outcome
hash_outcome path = after (path_check path) (answered (name_hash path ∷ []))

-- What an answer tells.
abbrev pub outcome : Result ℕ Refusal → Outcome
outcome = outcome_by (λ h. h ∷ [])
