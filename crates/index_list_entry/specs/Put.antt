-- One entry of a list, by 11, 10, 13, then its bytes: rules I5, I13 and I28.
use Rattle.std.specs.Prelude.{Bool, not, cond, ◌&&◌, List, [], ◌∷◌, ◌++◌, ℕ, zero, suc, ◌+◌, ◌*◌, ◌/◌, ◌%◌, ◌^◌, leb, ltb, eqb, length}
use Rattle.refusal.specs.Check.{Check, refused_if, first}
use Rattle.refusal.specs.Outcome.{Outcome, answered, after}
use Rattle.refusal.specs.Number.{settings, index_key_length}
use Rattle.refusal.specs.Output.{room_check}
use Rattle.index_layout.specs.Layout.{size_width}
use Rattle.index_entry.specs.Entry.{archive_width}
use Rattle.index_writer.specs.declared.Settings.{Settings}
use Rattle.index_writer.specs.Write.{list_entry_size, settings_check}

-- A number in w bytes, highest byte first (rule G6).
unfoldable pub big_bytes : (w n : ℕ) → List ℕ
big_bytes zero n = []
big_bytes (suc w) n = n / 256 ^ w % 256 ∷ big_bytes w n

-- With W = 6 a location is an archive number of two bytes and an offset of four; else it is the offset alone, and the archive
-- is 0 (rules I13, I28).
unfoldable pub most_archive : ℕ → ℕ
most_archive w = cond (eqb w archive_width) 65535 0

unfoldable pub offset_bytes : ℕ → ℕ
offset_bytes w = cond (eqb w archive_width) 4 w

unfoldable pub location_right : (w archive offset : ℕ) → Bool
location_right w archive offset = leb archive (most_archive w) && ltb offset (256 ^ offset_bytes w)

-- The location as one number (rule I13).
unfoldable pub location_of : (archive offset : ℕ) → ℕ
location_of archive offset = archive * 2 ^ 32 + offset

-- 11: the settings are wrong, or W bytes do not hold archive and offset (rule I28).
abbrev pub location_check : (w archive offset : ℕ) → Check
location_check w archive offset = refused_if (not (location_right w archive offset)) settings 0

-- 10: the key is not K bytes (rule I28).
abbrev pub key_check : Settings → List ℕ → Check
key_check s key = refused_if (not (eqb (length key) s.key_length)) index_key_length 0

-- 11, 10 and 13, in this order (rule I28).
unfoldable pub put_check : Settings → List ℕ → (archive offset room : ℕ) → Check
put_check s key archive offset room =
    first (settings_check s) (first (location_check s.offset_width archive offset) (first (key_check s key) (room_check (list_entry_size s) room)))

-- The bytes of the entry: key, encoded size and location (rule I5).
unfoldable pub entry_bytes : (w : ℕ) → List ℕ → (size location : ℕ) → List ℕ
entry_bytes w key size location = key ++ big_bytes size_width size ++ big_bytes w location

abbrev pub put_outcome : Settings → List ℕ → (archive offset room : ℕ) → Outcome
put_outcome s key archive offset room = after (put_check s key archive offset room) (answered (list_entry_size s ∷ []))
