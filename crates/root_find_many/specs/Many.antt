-- The lookup of many file numbers in a root file s at once: rule R18.
use Rattle.std.specs.Prelude.{List, [], ◌∷◌, ℕ, ◌*◌, length, replicate}
use Rattle.parts.specs.Part.{parts_from}
use Rattle.refusal.specs.Check.{Check, first}
use Rattle.refusal.specs.Outcome.{Outcome, answered, absent, refusal, after}
use Rattle.refusal.specs.Output.{room_check, filled}
use Rattle.id_list.specs.Ids.{id_count, id_at, ids_check}
use Rattle.root_layout.specs.Header.{layout_of, layout_values}
use Rattle.root_block.specs.Block.{size_of_key}
use Rattle.root.specs.Root.{root_check}
use Rattle.root.specs.Lookup.{lookup_of, key_or}

-- The bytes of an entry in the output.
abbrev pub entry_size : ℕ
entry_size = 20

-- 1 where the lookup finds the id, else 0.
unfoldable pub found_flag : Outcome → ℕ
found_flag (answered values) = 1
found_flag (absent values) = 0
found_flag (refusal number place) = 0

-- The entry of an id that the lookup answers so: 1 or 0, three zeros, the content key or zeros.
unfoldable pub entry_for : List ℕ → Outcome → List ℕ
entry_for s o = found_flag o ∷ 0 ∷ 0 ∷ 0 ∷ key_or s (replicate size_of_key 0) o

-- The entries of all ids: each is what the lookup of that id alone (rule R15) answers.
unfoldable pub many_bytes : (s ids : List ℕ) → (locale unwanted : ℕ) → List ℕ
many_bytes s ids locale unwanted = parts_from (λ i. entry_for s (lookup_of s (id_at ids i) locale unwanted)) 0 (id_count ids)

-- The root's full check (rule R13), 12, 161, 13.
unfoldable pub many_check : (s ids : List ℕ) → (room : ℕ) → Check
many_check s ids room = first (root_check s) (first (ids_check ids) (room_check (entry_size * id_count ids) room))

-- What a file and a list that are judged so give: how the file's blocks are laid out.
abbrev pub judged_outcome : (s ids : List ℕ) → (room : ℕ) → Outcome
judged_outcome s ids room = after (many_check s ids room) (answered (layout_values (layout_of s)))

-- The bytes written.
abbrev pub many_outcome : (s ids : List ℕ) → (room : ℕ) → Outcome
many_outcome s ids room = after (many_check s ids room) (answered (entry_size * id_count ids ∷ []))

-- The output at the end: the entries, and what is behind them; as it was on refusal (rules G13, G16).
abbrev pub many_output : (s ids : List ℕ) → (locale unwanted : ℕ) → List ℕ → List ℕ
many_output s ids locale unwanted output = filled (many_check s ids (length output)) (many_bytes s ids locale unwanted) output
