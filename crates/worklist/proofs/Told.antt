-- Laws of what is told of a row and of a field.
use mathlib.Core.Path.{◌≡◌, refl, sym, ap, ◌∙◌}
use mathlib.Core.Bool.{Bool, true, false, cond, ◌||◌}
use mathlib.Core.List.{List, [], ◌∷◌}
use Prim.Native.Nat.{ℕ, zero, suc, ◌≤◌, ◌<◌}
use native.Mathlib.Nat.{not-suc-le-zero, le_of_suc-le-suc}
use borrow.Author.Tests.{lt-ltb, le-ltb, ltb-false}
use lib.Dec.{ltb}
use lib.ListN.{length}
use Rattle.refusal.specs.Check.{silent, refused}
use Rattle.refusal.specs.Number.{settings}
use Rattle.refusal.specs.Outcome.{Outcome, answered, absent, refusal}
use Rattle.refusal.proofs.Laws.{said, quiet, silent-test, after-said, after-quiet}
use Rattle.worklist.specs.declared.Span.{Span}
use Rattle.std.specs.Prelude.{Result, Ok, Err}
use Rattle.worklist.specs.declared.Walked.{Walked}
use Rattle.worklist.specs.declared.Malformed.{Malformed}
use Rattle.worklist.specs.Rows.{lf, no_separator, separator_check, behind_line_end, stop_at, Row, whole, malformed, row_end, row_kind, row_values}
use Rattle.worklist.specs.Rows.{of_row, span_values, column_of, field_in, span_in, found_in, walked_of, span_told}

-- ---- the separator, and whether a row begins

or-false : (p q : Bool) → (p || q) ≡ false → p ≡ false
or-false true q e = e
or-false false q e = refl

module _ (sep : ℕ) (bad : Bool) (e : bad ≡ no_separator sep) where
  pub separator-byte : bad ≡ false → sep ≤ 255
  unfolding no_separator
  separator-byte h = ltb-false 255 sep (or-false _ _ (sym e ∙ h))

  module _ (t : List ℕ) (at : ℕ) (told : Outcome) where
    pub no-separator-told : bad ≡ true → refusal settings 0 ≡ of_row t at sep told
    unfolding of_row
    no-separator-told h = sym (after-said _ (said refl (sym e ∙ h)))

    told-by : {o : Outcome} → bad ≡ false → cond (ltb at (length t)) told (absent []) ≡ o → o ≡ of_row t at sep told
    unfolding of_row
    told-by h p = sym (after-quiet _ (quiet settings 0 refl (sym e ∙ h)) ∙ p)

    pub no-row-told : bad ≡ false → length t ≤ at → absent [] ≡ of_row t at sep told
    no-row-told h l = told-by h (ap (λ b. cond b told (absent [])) (le-ltb at (length t) l))

    pub row_told : {o : Outcome} → bad ≡ false → at < length t → o ≡ told → o ≡ of_row t at sep told
    row_told h l p = told-by h (ap (λ b. cond b told (absent [])) (lt-ltb at (length t) l) ∙ sym p)

-- by what the check of the separator says
module _ (sep : ℕ) (t : List ℕ) (at : ℕ) (told : Outcome) where
  pub refused-told : {number place : ℕ} → refused number place ≡ separator_check sep → refusal number place ≡ of_row t at sep told
  unfolding of_row
  refused-told e = sym (after-said _ (sym e))

  module _ (e : silent ≡ separator_check sep) where
    sound : no_separator sep ≡ false
    sound = silent-test _ settings 0 (sym e)

    pub absent-told : length t ≤ at → absent [] ≡ of_row t at sep told
    absent-told = no-row-told sep (no_separator sep) refl t at told sound

    pub some-told : {o : Outcome} → at < length t → o ≡ told → o ≡ of_row t at sep told
    some-told = row_told sep (no_separator sep) refl t at told sound

-- ---- a row

err-ok : {w : Walked} {m : Malformed} → ◌≡◌ {A = Result Walked Malformed} (Err m) (Ok w) → ⊥
err-ok e = cc

module _ (t : List ℕ) (column : ℕ) where
  pub whole-told : (r : Row) {w : Walked} → walked_of r column ≡ Ok w → (next : ℕ) → next ≡ behind_line_end t w.end
      → answered (w.end ∷ next ∷ w.fields ∷ 0 ∷ 0 ∷ []) ≡ answered (row_values t r)
  unfolding walked_of row_values row_end row_kind
  whole-told (whole fields stop) {w} e next q =
      let is : w ≡ record { end = stop; fields = length fields; found = found_in fields column } = cc in
      rw (q, is)
  whole-told (malformed place) e next q = absurd (err-ok e)

  pub malformed-told : (r : Row) {m : Malformed} → walked_of r column ≡ Err m → (end next : ℕ) → end ≡ stop_at lf t m.place
      → next ≡ behind_line_end t end → answered (end ∷ next ∷ 0 ∷ 1 ∷ m.place ∷ []) ≡ answered (row_values t r)
  unfolding walked_of row_values row_end row_kind
  malformed-told (whole fields stop) e end next p q = absurd (err-ok (sym e))
  malformed-told (malformed at) {m} e end next p q =
      let is : m ≡ record { place = at } = cc in
      rw (q, p, is)

-- ---- a field

pub column-here : (fields : List Span) (column : ℕ) → column < length fields → column_of fields column ≡ answered (span_values (span_in fields column))
unfolding column_of span_in
column-here [] column l = absurd (not-suc-le-zero l)
column-here (f ∷ fields) zero l = refl
column-here (f ∷ fields) (suc column) l = column-here fields column (le_of_suc-le-suc l)

-- the field that is found is the one of its column
found_told : (fields : List Span) (column : ℕ) → span_told (found_in fields column) ≡ column_of fields column
unfolding column_of found_in
found_told [] column = refl
found_told (f ∷ fields) zero = refl
found_told (f ∷ fields) (suc column) = found_told fields column

module _ (column : ℕ) where
  pub found-told : (r : Row) {w : Walked} → walked_of r column ≡ Ok w → span_told w.found ≡ field_in r column
  unfolding walked_of field_in
  found-told (whole fields stop) {w} e =
      let is : w ≡ record { end = stop; fields = length fields; found = found_in fields column } = cc in
      rw is (found_told fields column)
  found-told (malformed place) e = absurd (err-ok e)

  pub none_told : (r : Row) {m : Malformed} → walked_of r column ≡ Err m → absent [] ≡ field_in r column
  unfolding walked_of field_in
  none_told (whole fields stop) e = absurd (err-ok (sym e))
  none_told (malformed place) e = refl
