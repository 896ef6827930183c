-- Demand 2: a checked index, listed and written again, is the same file but for its contents hash, and a written one is read
-- back to its list and settings: rules I23, I24 and P2.
use Rattle.std.specs.Prelude.{◌≡◌, List, [], ◌∷◌, ◌++◌, ℕ, ◌≤◌, ◌<◌, length, take, drop, Result, Ok, Err}
use Rattle.parts.specs.Part.{byte_at}
use Rattle.refusal.specs.declared.Refusal.{Refusal}
use Rattle.refusal.specs.Outcome.{answered, written_outcome}
use Rattle.refusal.specs.Output.{filled}
use Rattle.index_layout.specs.declared.Layout.{Layout}
use Rattle.index_layout.specs.Entries.{list_of}
use Rattle.index_open.specs.Open as checks
use Rattle.index.specs.Check.{check_outcome}
use Rattle.index_list.specs.List.{list_check, list_outcome}
use Rattle.index_file.specs.File.{file_of}
use Rattle.index_writer.specs.declared.Settings.{Settings}
use Rattle.index_writer.specs.Write.{list_count, layout_for, write_check, write_outcome}
use Rattle.index_round_trip.specs.Same.{settings_of, contents_hash_of, with_contents_hash}

-- ---- calls, as the contracts have them

-- `index::check` of an index answered so.
abbrev pub Checks : List ℕ → Result Layout Refusal → Type 0
Checks index answer = checks.outcome answer ≡ check_outcome index

-- `index_list::list` of an index answered so, and left these bytes in the output lent to it.
pub record Lists (index lent : List ℕ) (answer : Result ℕ Refusal) (left : List ℕ) : Type 0 where
  pub answers : written_outcome answer ≡ list_outcome index (length lent)
  pub leaves : left ≡ filled (list_check index (length lent)) (list_of index) lent

-- `index_writer::write` of settings and a list answered so, and left these bytes in the output lent to it.
pub record Writes (settings : Settings) (list lent : List ℕ) (answer : Result ℕ Refusal) (left : List ℕ) : Type 0 where
  pub answers : written_outcome answer ≡ write_outcome settings list (length lent)
  pub leaves : left ≡ filled (write_check settings list (length lent)) (file_of list (layout_for settings list)) lent

-- How many bytes listing tells that it wrote; none where it refused.
unfoldable pub bytes_listed : Result ℕ Refusal → ℕ
bytes_listed (Ok n) = n
bytes_listed (Err r) = 0

-- ---- a checked index, listed and written again

pub record Again (index : List ℕ) : Type 0 where
  pub checked : Result Layout Refusal
  pub check : Checks index checked
  -- The list is in the output that was lent for it.
  pub list_lent : List ℕ
  pub listed : Result ℕ Refusal
  pub listing : List ℕ
  pub list : Lists index list_lent listed listing
  -- The writer takes the settings that the check told and the bytes that were listed.
  pub layout : Layout
  pub file_lent : List ℕ
  pub written : Result ℕ Refusal
  pub file : List ℕ
  pub write : Writes (settings_of layout) (take (bytes_listed listed) listing) file_lent written file
  -- The premises: the check passed, there is room for the list and for the file, and the index is of bytes.
  pub passed : checked ≡ Ok layout
  pub list_room : length (list_of index) ≤ length list_lent
  pub file_room : length index ≤ length file_lent
  pub bytes : (i : ℕ) → byte_at index i < 256

-- Both succeed, and the file is the index but for its contents hash; bytes past its end stay.
pub record SameFile (index : List ℕ) (c : Again index) : Type 0 where
  pub listed : c.listed ≡ Ok (length (list_of index))
  pub written : c.written ≡ Ok (length index)
  pub file : c.file ≡ with_contents_hash index (contents_hash_of index) ++ drop (length index) c.file_lent

-- ---- a written index, read back

pub record Back (settings : Settings) (list : List ℕ) : Type 0 where
  pub file_lent : List ℕ
  pub written : Result ℕ Refusal
  pub output : List ℕ
  pub write : Writes settings list file_lent written output
  -- The file is what the writer tells of its output; it is checked, and listed into other output.
  pub size : ℕ
  pub checked : Result Layout Refusal
  pub check : Checks (take size output) checked
  pub list_lent : List ℕ
  pub listed : Result ℕ Refusal
  pub listing : List ℕ
  pub relist : Lists (take size output) list_lent listed listing
  -- The premises: the file was written, and there is room for its list.
  pub passed : written ≡ Ok size
  pub list_room : length list ≤ length list_lent

-- The full check passes, and tells the settings that were given, the number of entries and the number of pages; the list is
-- the one that was given.
pub record ReadsBack (settings : Settings) (list : List ℕ) (c : Back settings list) : Type 0 where
  pub checked : checks.outcome c.checked
      ≡ answered (settings.version ∷ settings.offset_width ∷ settings.key_length ∷ list_count settings list ∷ (layout_for settings list).pages ∷ [])
  pub listed : c.listed ≡ Ok (length list)
  pub entries : c.listing ≡ list ++ drop (length list) c.list_lent

-- ---- the demand

pub record RoundTrip : Type 0 where
  -- A checked index, listed and written again (rule I23).
  pub again : (index : List ℕ) (c : Again index) → SameFile index c
  -- A written index, read back (rule I24).
  pub back : (settings : Settings) (list : List ℕ) (c : Back settings list) → ReadsBack settings list c
