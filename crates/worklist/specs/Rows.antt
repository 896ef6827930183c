-- Separated text t with a separator: rules D1 to D7. A place is a byte offset in t.
use Rattle.std.specs.Prelude.{◌≡◌, Bool, true, false, cond, ◌||◌, ◌&&◌, List, [], ◌∷◌, ℕ, zero, suc, ◌+◌, ◌-◌, ltb, leb, eqb, length, drop}
use Rattle.std.specs.Prelude.{Option, Some, None, Result, Ok, Err}
use Rattle.refusal.specs.Check.{Check, refused_if}
use Rattle.refusal.specs.Number.{settings, number_of}
use Rattle.refusal.specs.Outcome.{Outcome, answered, absent, refusal, after}
use Rattle.parts.specs.Part.{byte_at, part_at}
use Rattle.refusal.specs.declared.Refusal.{Refusal}
use Rattle.worklist.specs.declared.Malformed.{Malformed}
use Rattle.worklist.specs.declared.FieldEnd.{FieldEnd}
use Rattle.worklist.specs.declared.Span.{Span}
use Rattle.worklist.specs.declared.Walked.{Walked}
use Rattle.worklist.specs.declared.RowFound.{RowFound}

abbrev pub quote : ℕ
quote = 34

abbrev pub cr : ℕ
cr = 13

abbrev pub lf : ℕ
lf = 10

-- ---- separator and line end

-- A separator is a byte, and no quote, CR or LF (rule D1).
abbrev pub most_separator : ℕ
most_separator = 255

unfoldable pub no_separator : (sep : ℕ) → Bool
no_separator sep = ltb most_separator sep || (eqb sep quote || (eqb sep cr || eqb sep lf))

abbrev pub separator_check : (sep : ℕ) → Check
separator_check sep = refused_if (no_separator sep) settings 0

-- The place behind the line end that stands at a place: LF, CR LF, or a CR that no LF follows (rule D2).
unfoldable pub behind_line_end : List ℕ → (at : ℕ) → ℕ
behind_line_end t at =
    cond (eqb (byte_at t at) lf) (at + 1)
    (cond (eqb (byte_at t at) cr) (cond (eqb (byte_at t (at + 1)) lf) (at + 2) (at + 1)) at)

-- ---- a field

-- A plain field ends before a separator, CR or LF (rule D3).
unfoldable pub stops : (sep b : ℕ) → Bool
stops sep b = eqb b sep || (eqb b cr || eqb b lf)

-- The first of them from a place on, or the text's end; s is the text from that place on.
unfoldable pub stop_from : (sep at : ℕ) → List ℕ → ℕ
stop_from sep at [] = at
stop_from sep at (b ∷ s) = cond (stops sep b) at (stop_from sep (at + 1) s)

abbrev pub stop_at : (sep : ℕ) → List ℕ → (at : ℕ) → ℕ
stop_at sep t at = stop_from sep at (drop at t)

-- The place behind the closing quote: the first quote that is not doubled. Pending: the byte before is a quote, which closes the
-- field unless another follows (rule D3).
unfoldable pub closing_from : (pending : Bool) (at : ℕ) → List ℕ → Option ℕ
closing_from false at [] = None
closing_from true at [] = Some at
closing_from false at (b ∷ s) = closing_from (eqb b quote) (at + 1) s
closing_from true at (b ∷ s) = cond (eqb b quote) (closing_from false (at + 1) s) (Some at)

abbrev pub closing_at : List ℕ → (at : ℕ) → Option ℕ
closing_at t at = closing_from false at (drop at t)

-- Whether a closing quote may stand before a place: the text ends there, or a separator, CR or LF stands there (rule D4).
unfoldable pub ends_field : (sep : ℕ) → List ℕ → (at : ℕ) → Bool
ends_field sep t at = leb (length t) at || stops sep (byte_at t at)

-- A field that ends at a place, and a row that is malformed there.
abbrev pub field_to : (end : ℕ) → Bool → Result FieldEnd Malformed
field_to end quoted = Ok (record { end = end; quoted = quoted })

abbrev pub faulty : {T : Type 0} → (place : ℕ) → Result T Malformed
faulty place = Err (record { place = place })

-- A quoted field, by where it is closed. The place of a fault is that of the byte behind the closing quote, or of the opening
-- quote of a field that is never closed (rule D4).
unfoldable pub quoted_field : (sep : ℕ) → List ℕ → (at : ℕ) → Option ℕ → Result FieldEnd Malformed
quoted_field sep t at None = faulty at
quoted_field sep t at (Some end) = cond (ends_field sep t end) (field_to end true) (faulty end)

-- The field that begins at a place: quoted where its first byte is a quote, else plain (rule D3).
unfoldable pub field_at : (sep : ℕ) → List ℕ → (at : ℕ) → Result FieldEnd Malformed
field_at sep t at =
    cond (eqb (byte_at t at) quote) (quoted_field sep t at (closing_at t (at + 1))) (field_to (stop_at sep t at) false)

-- ---- a row

-- The fields of a row and where it ends, or the place where it is malformed (rules D4, D5).
pub data Row : Type 0 where
  whole : (fields : List Span) (end : ℕ) → Row
  malformed : (place : ℕ) → Row

unfoldable pub in_front : Span → Row → Row
in_front f (whole fields end) = whole (f ∷ fields) end
in_front f (malformed place) = malformed place

unfoldable pub separator_at : (sep : ℕ) → List ℕ → (at : ℕ) → Bool
separator_at sep t at = ltb at (length t) && eqb (byte_at t at) sep

abbrev pub span_of : (at end : ℕ) → Bool → Span
span_of at end quoted = record { at = at; length = end - at; quoted = quoted }

-- A field and what follows it: behind a separator the next field, else the row's end. So an empty row has one field, of no
-- bytes (rule D5).
unfoldable pub step_of_row : (sep : ℕ) → List ℕ → (at : ℕ) → Result FieldEnd Malformed → (next : ℕ → Row) → Row
step_of_row sep t at (Err m) next = malformed m.place
step_of_row sep t at (Ok f) next =
    cond (separator_at sep t f.end) (in_front (span_of at f.end f.quoted) (next (f.end + 1))) (whole (span_of at f.end f.quoted ∷ []) f.end)

unfoldable pub row_by : (turns sep : ℕ) → List ℕ → (at : ℕ) → Row
row_by zero sep t at = malformed at
row_by (suc turns) sep t at = step_of_row sep t at (field_at sep t at) (row_by turns sep t)

-- The row that begins at a place. Each field but the last has a separator behind it, so that there are at most as many as bytes are
-- left, and one. RowRule, below, is the same without turns.
unfoldable pub row_at : (sep : ℕ) → List ℕ → (at : ℕ) → Row
row_at sep t at = row_by (length t - at + 1) sep t at

-- The row without turns: a field, and what follows it.
abbrev pub RowRule : (sep : ℕ) → List ℕ → Type 0
RowRule sep t = (at : ℕ) → row_at sep t at ≡ step_of_row sep t at (field_at sep t at) (row_at sep t)

-- A malformed row ends at the first CR or LF from its place on, or at the text's end (rule D5): with LF for a separator nothing
-- else stops.
unfoldable pub row_end : List ℕ → Row → ℕ
row_end t (whole fields end) = end
row_end t (malformed place) = stop_at lf t place

-- ---- what is told

-- The number of its fields, 0, 0; malformed: 0, 1, the place (rule D6).
unfoldable pub row_kind : Row → List ℕ
row_kind (whole fields end) = length fields ∷ 0 ∷ 0 ∷ []
row_kind (malformed place) = 0 ∷ 1 ∷ place ∷ []

-- Where the row ends and where the next begins stand before these (rule D6).
unfoldable pub row_values : List ℕ → Row → List ℕ
row_values t r = row_end t r ∷ behind_line_end t (row_end t r) ∷ row_kind r

-- Told of a row: a separator that is none is refused before anything else (rule D1), and a row begins at any byte before the
-- text's end (rule D5).
unfoldable pub of_row : List ℕ → (at sep : ℕ) → Outcome → Outcome
of_row t at sep told = after (separator_check sep) (cond (ltb at (length t)) told (absent []))

abbrev pub row_outcome : List ℕ → (at sep : ℕ) → Outcome
row_outcome t at sep = of_row t at sep (answered (row_values t (row_at sep t at)))

-- Place and length of a field, and 1 where it is quoted, else 0 (rule D7).
unfoldable pub span_values : Span → List ℕ
span_values f = f.at ∷ f.length ∷ cond f.quoted 1 0 ∷ []

unfoldable pub column_of : List Span → (column : ℕ) → Outcome
column_of [] column = absent []
column_of (f ∷ fields) zero = answered (span_values f)
column_of (f ∷ fields) (suc column) = column_of fields column

unfoldable pub field_in : Row → (column : ℕ) → Outcome
field_in (whole fields end) column = column_of fields column
field_in (malformed place) column = absent []

abbrev pub field_outcome : List ℕ → (at sep column : ℕ) → Outcome
field_outcome t at sep column = of_row t at sep (field_in (row_at sep t at) column)

-- The part of the text that an answer tells, and where it stands; empty where it tells none (rule D7).
unfoldable pub place_of : Outcome → ℕ
place_of (answered []) = 0
place_of (answered (at ∷ values)) = at
place_of (absent values) = 0
place_of (refusal number place) = 0

unfoldable pub length_of : Outcome → ℕ
length_of (answered []) = 0
length_of (answered (at ∷ [])) = 0
length_of (answered (at ∷ size ∷ values)) = size
length_of (absent values) = 0
length_of (refusal number place) = 0

abbrev pub field_part : List ℕ → Outcome → List ℕ
field_part t told = part_at t (place_of told) (length_of told)

-- ---- what the declared answers tell

-- The field with a number; zeros where there is none.
unfoldable pub span_in : List Span → (column : ℕ) → Span
span_in [] column = record { at = 0; length = 0; quoted = false }
span_in (f ∷ fields) zero = f
span_in (f ∷ fields) (suc column) = span_in fields column

-- The field with a number, where there is one.
unfoldable pub found_in : List Span → (column : ℕ) → Option Span
found_in [] column = None
found_in (f ∷ fields) zero = Some f
found_in (f ∷ fields) (suc column) = found_in fields column

unfoldable pub walked_of : Row → (column : ℕ) → Result Walked Malformed
walked_of (whole fields end) column = Ok (record { end = end; fields = length fields; found = found_in fields column })
walked_of (malformed place) column = faulty place

-- The number of fields, 0, 0; malformed: 0, 1, the place (rule D6).
abbrev pub fields_told : Result ℕ Malformed → List ℕ
fields_told (Ok n) = n ∷ 0 ∷ 0 ∷ []
fields_told (Err m) = 0 ∷ 1 ∷ m.place ∷ []

abbrev pub outcome_of_row : Result (Option RowFound) Refusal → Outcome
outcome_of_row (Ok (Some r)) = answered (r.end ∷ r.next ∷ fields_told r.fields)
outcome_of_row (Ok None) = absent []
outcome_of_row (Err r) = refusal (number_of r.reason) r.place

-- A field, where there is one.
abbrev pub span_told : Option Span → Outcome
span_told (Some f) = answered (span_values f)
span_told None = absent []

abbrev pub field_told : Result (Option Span) Refusal → Outcome
field_told (Ok found) = span_told found
field_told (Err r) = refusal (number_of r.reason) r.place
