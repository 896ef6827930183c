-- However a message is cut into parts, the digest at the end is that of the whole, and a part that would pass the limit is
-- refused: rules H13 and H14.
use Rattle.std.specs.Prelude.{◌≡◌, List, [], ◌∷◌, ◌++◌, ℕ, ◌+◌, ◌^◌, ◌≤◌, ◌<◌, length, Result}
use Rattle.md5_digest.specs.declared.Md5.{Md5}
use Rattle.refusal.specs.declared.Refusal.{Refusal}
use Rattle.md5_digest.specs.Message.{fresh, md5, finished, limited, updated}
use Rattle.refusal.specs.Check.{check_of, silent, refused}
use Rattle.refusal.specs.Number.{hash_limit}

-- What `Md5::update` answers.
abbrev pub Answer : Type 0
Answer = Result Unit Refusal

-- What `Md5::update` ensures of its answer r to a part, and of the state after it.
pub record Updates (s : Md5) (part : List ℕ) (r : Answer) (t : Md5) : Type 0 where
  pub said : check_of r ≡ limited (s.count + length part)
  pub after : t ≡ updated s part

-- A run of updates: the state s, the parts with the answer to each, and the state at the end.
pub data Run : Md5 → List (List ℕ) → List Answer → Md5 → Type 0 where
  done : {s : Md5} → Run s [] [] s
  next : {s t e : Md5} {part : List ℕ} {parts : List (List ℕ)} {r : Answer} {rs : List Answer}
      → Updates s part r t → Run t parts rs e → Run s (part ∷ parts) (r ∷ rs) e

-- No answer of a run refuses.
pub data AllPassed : List Answer → Type 0 where
  none : AllPassed []
  more : {r : Answer} {rs : List Answer} → check_of r ≡ silent → AllPassed rs → AllPassed (r ∷ rs)

-- The parts of a message, one after the other.
unfoldable pub joined : List (List ℕ) → List ℕ
joined [] = []
joined (part ∷ parts) = part ++ joined parts

-- What holds at the end of a run: nothing was refused, the state's digest (what `Md5::finish` ensures) is that of the parts
-- joined, and a part that would pass the limit is 50 and leaves the state (rule H14).
pub record Cut (parts : List (List ℕ)) (rs : List Answer) (e : Md5) : Type 0 where
  pub passed : AllPassed rs
  pub digest : finished e ≡ md5 (joined parts)
  pub limit : (part : List ℕ) (r : Answer) (t : Md5) → 2 ^ 48 < length (joined parts) + length part → Updates e part r t
      → (check_of r ≡ refused hash_limit 0) × (t ≡ e)

-- Any cutting of at most 2^48 bytes, from the state that `Md5::new` answers (rule H13).
abbrev pub AnyCutting : Type 0
AnyCutting = (parts : List (List ℕ)) (rs : List Answer) (e : Md5) → length (joined parts) ≤ 2 ^ 48 → Run fresh parts rs e → Cut parts rs e
