-- Worked examples of rules D1 to D7, with a comma for the separator.
use mathlib.Core.Path.{◌≡◌, refl}
use mathlib.Core.List.{List, [], ◌∷◌}
use Prim.Native.Nat.{ℕ}
use Rattle.refusal.specs.Check.{refused_if}
use Rattle.refusal.specs.Outcome.{answered, absent, refusal, after}
use Rattle.worklist.specs.Rows.{no_separator, behind_line_end, stops, stop_from, closing_from, ends_field, quoted_field, field_at, in_front}
use Rattle.worklist.specs.Rows.{separator_at, step_of_row, row_by, row_at, row_end, row_kind, row_values, of_row, row_outcome}
use Rattle.worklist.specs.Rows.{span_values, column_of, field_in, field_outcome}

abbrev comma : ℕ
comma = 44

-- a,"b,c" LF d
abbrev two-rows : List ℕ
two-rows = 97 ∷ 44 ∷ 34 ∷ 98 ∷ 44 ∷ 99 ∷ 34 ∷ 10 ∷ 100 ∷ []

-- "a"x,b CR LF c
abbrev behind-closing : List ℕ
behind-closing = 34 ∷ 97 ∷ 34 ∷ 120 ∷ 44 ∷ 98 ∷ 13 ∷ 10 ∷ 99 ∷ []

-- x,"y LF z
abbrev unclosed : List ℕ
unclosed = 120 ∷ 44 ∷ 34 ∷ 121 ∷ 10 ∷ 122 ∷ []

-- "a""b", CR c
abbrev doubled-quote : List ℕ
doubled-quote = 34 ∷ 97 ∷ 34 ∷ 34 ∷ 98 ∷ 34 ∷ 44 ∷ 13 ∷ 99 ∷ []

pub record Examples : Type 0 where
  pub first-row : row_outcome two-rows 0 comma ≡ answered (7 ∷ 8 ∷ 2 ∷ 0 ∷ 0 ∷ [])
  pub last_row : row_outcome two-rows 8 comma ≡ answered (9 ∷ 9 ∷ 1 ∷ 0 ∷ 0 ∷ [])
  pub no_row : row_outcome two-rows 9 comma ≡ absent []
  pub quoted-field : field_outcome two-rows 0 comma 1 ≡ answered (2 ∷ 5 ∷ 1 ∷ [])
  pub no_field : field_outcome two-rows 0 comma 2 ≡ absent []
  pub byte-behind : row_outcome behind-closing 0 comma ≡ answered (6 ∷ 8 ∷ 0 ∷ 1 ∷ 3 ∷ [])
  pub none-of-malformed : field_outcome behind-closing 0 comma 0 ≡ absent []
  pub never-closed : row_outcome unclosed 0 comma ≡ answered (4 ∷ 5 ∷ 0 ∷ 1 ∷ 2 ∷ [])
  pub row-behind : row_outcome unclosed 5 comma ≡ answered (6 ∷ 6 ∷ 1 ∷ 0 ∷ 0 ∷ [])
  pub two_fields : row_outcome doubled-quote 0 comma ≡ answered (7 ∷ 8 ∷ 2 ∷ 0 ∷ 0 ∷ [])
  pub empty-field : field_outcome doubled-quote 0 comma 1 ≡ answered (7 ∷ 0 ∷ 0 ∷ [])
  pub empty-row : row_outcome (13 ∷ 10 ∷ []) 0 comma ≡ answered (0 ∷ 2 ∷ 1 ∷ 0 ∷ 0 ∷ [])
  pub no-separator : row_outcome two-rows 20 34 ≡ refusal 11 0

pub examples : Examples
unfolding of_row after refused_if no_separator row_at row_by step_of_row field_at stop_from stops
    closing_from quoted_field ends_field separator_at in_front row_values row_end row_kind behind_line_end field_in column_of span_values
examples = record {
  first-row = refl;
  last_row = refl;
  no_row = refl;
  quoted-field = refl;
  no_field = refl;
  byte-behind = refl;
  none-of-malformed = refl;
  never-closed = refl;
  row-behind = refl;
  two_fields = refl;
  empty-field = refl;
  empty-row = refl;
  no-separator = refl;
}
