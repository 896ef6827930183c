-- What is claimed of lists of entries, each proved by one term: rules I11, I15, I17, I23, I24, I32 and L8.
use Rattle.std.specs.Prelude.{◌≡◌, true, List, ℕ, ◌≤◌, length}
use Rattle.refusal.specs.Check.{silent}
use Rattle.index_layout.specs.declared.Layout.{Layout}
use Rattle.index_layout.specs.Layout.{most_entries, entry_size, layout_of}
use Rattle.index_layout.specs.Entries.{list_of}
use Rattle.index_entry.specs.Entry.{stored_entry}
use Rattle.index.specs.Check.{full_check}
use Rattle.index_file.specs.File.{file_of}
use Rattle.index_writer.specs.declared.Settings.{Settings}
use Rattle.index_writer.specs.Write.{settings_right, list_entry_size, layout_for, input_check}
use Rattle.index_agreement.specs.Plain.{Plain, found, absent, plain_reading}
use Rattle.entry_list.specs.Entries.{Entry, index_entries, list_entries, joined, sized, rises, Sought, here, nowhere, first_with}

-- ---- an index that passes the full check

pub record OfChecked (s : List ℕ) : Type 0 where
  -- The keys of its entries rise, and each entry is whole.
  pub rising : rises (layout_of s).key_length (index_entries s) ≡ true
  pub whole : sized (entry_size (layout_of s)) (index_entries s) ≡ true
  -- Joined they are its list, and the list cut again gives them.
  pub list : joined (index_entries s) ≡ list_of s
  pub cut : list_entries (entry_size (layout_of s)) (list_of s) ≡ index_entries s

-- Proof: proofs/Checked.antt.
abbrev pub CheckedRises : Type 0
CheckedRises = (s : List ℕ) → full_check s ≡ silent → OfChecked s

-- ---- entries that are written

-- Settings and entries that a writer takes.
pub record Writable (settings : Settings) (es : List Entry) : Type 0 where
  pub right : settings_right settings ≡ true
  pub whole : sized (list_entry_size settings) es ≡ true
  pub few : length es ≤ most_entries
  pub rising : rises settings.key_length es ≡ true

-- The file of these entries.
abbrev pub file_from : Settings → List Entry → List ℕ
file_from settings es = file_of (joined es) (layout_for settings (joined es))

pub record Reads (settings : Settings) (es : List Entry) : Type 0 where
  -- The writer refuses nothing but for want of room, and the file passes the full check.
  pub taken : input_check settings (joined es) ≡ silent
  pub passes : full_check (file_from settings es) ≡ silent
  -- It has the settings and the entries that it was written from.
  pub layout : layout_of (file_from settings es) ≡ layout_for settings (joined es)
  pub entries : index_entries (file_from settings es) ≡ es

-- Proof: proofs/Written.antt.
abbrev pub WrittenReadsBack : Type 0
WrittenReadsBack = (settings : Settings) (es : List Entry) → Writable settings es → Reads settings es

-- A list that a writer takes has such entries. Proof: proofs/Written.antt.
pub record OfList (settings : Settings) (list : List ℕ) : Type 0 where
  pub writable : Writable settings (list_entries (list_entry_size settings) list)
  pub same : joined (list_entries (list_entry_size settings) list) ≡ list

abbrev pub TakenIsWritable : Type 0
TakenIsWritable = (settings : Settings) (list : List ℕ) → input_check settings list ≡ silent → OfList settings list

-- ---- the plain reading

-- The entry at the page and slot where the plain reading of s ends.
unfoldable pub entry_read : List ℕ → Layout → Plain → Sought
entry_read s l (found p i size location) = here (stored_entry s l p i)
entry_read s l absent = nowhere

-- It is the first entry whose key is the sought one (rule L8). Proof: proofs/Reading.antt.
abbrev pub PlainReadingIsFirst : Type 0
PlainReadingIsFirst =
    (s key : List ℕ) → entry_read s (layout_of s) (plain_reading s key) ≡ first_with (layout_of s).key_length key (index_entries s)
