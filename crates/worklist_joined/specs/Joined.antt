-- The rows of separated text joined (rule D9), the fields of a row joined by the separator (rule D10), and what a field holds (rule D11).
use Rattle.std.specs.Prelude.{◌≡◌, true, false, cond, List, [], ◌∷◌, ◌++◌, ℕ, zero, suc, ◌+◌, ◌-◌, ◌<◌, ltb, length}
use Rattle.parts.specs.Part.{byte_at, part_at, overlay}
use Rattle.worklist.specs.declared.Span.{Span}
use Rattle.worklist_unquoted.specs.Unquoted.{content_of, quoted_text}
use Rattle.worklist.specs.Rows.{cr, lf, stops, no_separator, behind_line_end, Row, whole, malformed, row_at, row_end, field_outcome, field_part, span_in}

-- ---- rows

-- Where a row begins, where it ends, and where the next begins.
pub record Line : Type 0 where
  pub at : ℕ
  pub end : ℕ
  pub next : ℕ

unfoldable pub line_at : (sep : ℕ) → List ℕ → (at : ℕ) → Line
line_at sep t at =
    record { at = at; end = row_end t (row_at sep t at); next = behind_line_end t (row_end t (row_at sep t at)) }

unfoldable pub rows_by : (turns sep : ℕ) → List ℕ → (at : ℕ) → List Line
rows_by zero sep t at = []
rows_by (suc turns) sep t at = cond (ltb at (length t)) (line_at sep t at ∷ rows_by turns sep t (line_at sep t at).next) []

-- The rows from byte 0 on. Each row has a byte or its line end has, so that as many turns as there are bytes are enough.
abbrev pub rows_of : (sep : ℕ) → List ℕ → List Line
rows_of sep t = rows_by (length t) sep t 0

-- A row with its line end.
abbrev pub line_bytes : List ℕ → Line → List ℕ
line_bytes t r = part_at t r.at (r.next - r.at)

unfoldable pub joined_rows : List ℕ → List Line → List ℕ
joined_rows t [] = []
joined_rows t (r ∷ rows) = line_bytes t r ++ joined_rows t rows

-- The line end of a row: LF, CR LF, a CR that no LF follows, or none at the text's end only (rules D2, D5).
pub data LineEnd (t : List ℕ) (r : Line) : List ℕ → Type 0 where
  by_lf : LineEnd t r (lf ∷ [])
  by_cr_lf : LineEnd t r (cr ∷ lf ∷ [])
  by_cr : (byte_at t r.next ≡ lf → ⊥) → LineEnd t r (cr ∷ [])
  at_end : r.end ≡ length t → LineEnd t r []

-- What is copied of a row is the row and its line end.
pub record RowWithEnd (t : List ℕ) (r : Line) : Type 0 where
  pub line_end : List ℕ
  pub ends : LineEnd t r line_end
  pub bytes : line_bytes t r ≡ part_at t r.at (r.end - r.at) ++ line_end

-- The rows from byte 0 on, each with its line end, joined, are the text (rule D9).
pub record RowsJoined (sep : ℕ) (t : List ℕ) : Type 0 where
  pub rows : joined_rows t (rows_of sep t) ≡ t
  pub each : (at : ℕ) → at < length t → RowWithEnd t (line_at sep t at)

-- What copy_rows tells and leaves: nothing where the separator is none (rule D1).
abbrev pub row_count : (sep : ℕ) → List ℕ → ℕ
row_count sep t = cond (no_separator sep) 0 (length (rows_of sep t))

abbrev pub copied_rows : (sep : ℕ) (t out : List ℕ) → List ℕ
copied_rows sep t out = cond (no_separator sep) out (overlay out 0 t)

-- ---- fields

abbrev pub field_bytes : List ℕ → Span → List ℕ
field_bytes t f = part_at t f.at f.length

-- Fields, each behind a separator.
unfoldable pub behind_separators : (sep : ℕ) → List ℕ → List Span → List ℕ
behind_separators sep t [] = []
behind_separators sep t (f ∷ fields) = sep ∷ (field_bytes t f ++ behind_separators sep t fields)

-- Fields joined by the separator.
unfoldable pub joined_fields : (sep : ℕ) → List ℕ → List Span → List ℕ
joined_fields sep t [] = []
joined_fields sep t (f ∷ fields) = field_bytes t f ++ behind_separators sep t fields

-- The fields of a row that is not malformed, joined by the separator, are the row (rule D10).
abbrev pub FieldsJoined : (sep : ℕ) → List ℕ → Type 0
FieldsJoined sep t =
    (at : ℕ) → at < length t → (fields : List Span) (end : ℕ) → row_at sep t at ≡ whole fields end → joined_fields sep t fields ≡ part_at t at (end - at)

-- The field of a column, as it is handed out (rule D7).
abbrev pub field_of : (sep : ℕ) → List ℕ → (at column : ℕ) → List ℕ
field_of sep t at column = field_part t (field_outcome t at sep column)

unfoldable pub fields_of : Row → List Span
fields_of (whole fields end) = fields
fields_of (malformed place) = []

abbrev pub joined_row : (sep : ℕ) → List ℕ → (at : ℕ) → List ℕ
joined_row sep t at = joined_fields sep t (fields_of (row_at sep t at))

-- A separator at a place of the output, and a field behind it.
abbrev pub laid_field : (sep : ℕ) → List ℕ → (at column : ℕ) → List ℕ → (to : ℕ) → List ℕ
laid_field sep t at column out to = overlay (overlay out to (sep ∷ [])) (to + 1) (field_of sep t at column)

-- What copy_fields leaves: the row's bytes from the output's start on; no byte changes where there is no row, or where it is malformed.
unfoldable pub laid_row : List ℕ → (at : ℕ) → Row → List ℕ → List ℕ
laid_row t at (whole fields end) out = overlay out 0 (part_at t at (end - at))
laid_row t at (malformed place) out = out

abbrev pub copied_fields : (sep : ℕ) → List ℕ → (at : ℕ) → List ℕ → List ℕ
copied_fields sep t at out = cond (no_separator sep) out (cond (ltb at (length t)) (laid_row t at (row_at sep t at) out) out)

-- A row that is not malformed begins there and has this number of fields.
pub record HasFields (sep : ℕ) (t : List ℕ) (at count : ℕ) : Type 0 where
  pub separator : no_separator sep ≡ false
  pub inside : at < length t
  pub some : 0 < count
  pub all : count ≡ length (fields_of (row_at sep t at))

-- ---- what a field holds

-- A plain field holds no separator, CR or LF; a quoted one is a quote, the bytes that it stands for with each quote doubled, and a
-- quote (rule D11).
pub record Holds (sep : ℕ) (t : List ℕ) (f : Span) : Type 0 where
  pub plain : f.quoted ≡ false → (i : ℕ) → i < f.length → stops sep (byte_at t (f.at + i)) ≡ false
  pub in_quotes : f.quoted ≡ true → field_bytes t f ≡ quoted_text (content_of (field_bytes t f))

abbrev pub FieldsHold : (sep : ℕ) → List ℕ → Type 0
FieldsHold sep t =
    (at : ℕ) → at < length t → (fields : List Span) (end : ℕ) → row_at sep t at ≡ whole fields end
    → (column : ℕ) → column < length fields → Holds sep t (span_in fields column)
