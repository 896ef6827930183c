-- The fields of a row that is whole, one by one, and that each stands in the text.
use mathlib.Core.Path.{◌≡◌, refl, sym, ap, ap₂, ◌∙◌, subst}
use mathlib.Core.Bool.{Bool, true, false, cond}
use mathlib.Core.List.{List, [], ◌∷◌}
use Prim.Native.Nat.{ℕ, zero, suc, ◌+◌, ◌-◌, ◌≤◌}
use native.Mathlib.Nat.{add-sub_cancel_left}
use native.Mathlib.Omega.{arith}
use borrow.Author.Tests.{ltb-true}
use lib.ListN.{length, take, drop}
use Rattle.refusal.specs.Check.{Check, silent, refused}
use Rattle.refusal.specs.Outcome.{Outcome, answered, absent, refusal, after}
use Rattle.parts.proofs.Laws.{by-test}
use Rattle.std.specs.Prelude.{Result, Ok, Err}
use Rattle.worklist.specs.declared.FieldEnd.{FieldEnd}
use Rattle.worklist.specs.declared.Malformed.{Malformed}
use Rattle.worklist.specs.declared.Span.{Span}
use Rattle.worklist.proofs.Rows.{field-forward, field-inside, separator-inside}
use Rattle.worklist.specs.Rows.{field_at, field_to, Row, whole, malformed, in_front, separator_at, separator_check}
use Rattle.worklist.specs.Rows.{span_of, step_of_row, row_by, row_at, of_row}
use Rattle.worklist.specs.Rows.{span_values, column_of, field_in, field_outcome, place_of, length_of, field_part}

-- The fields from a place on, up to where the row ends.
pub data Fields (sep : ℕ) (t : List ℕ) : ℕ → List Span → ℕ → Type 0 where
  last : {at end : ℕ} {quoted : Bool} → at ≤ length t → field_at sep t at ≡ field_to end quoted → separator_at sep t end ≡ false
      → Fields sep t at (span_of at end quoted ∷ []) end
  more : {at stop end : ℕ} {quoted : Bool} {fields : List Span} → at ≤ length t → field_at sep t at ≡ field_to stop quoted → separator_at sep t stop ≡ true
      → Fields sep t (stop + 1) fields end → Fields sep t at (span_of at stop quoted ∷ fields) end

never-whole : {P : Type 0} (place : ℕ) (fields : List Span) (end : ℕ) → malformed place ≡ whole fields end → P
never-whole place fields end e = absurd (let z : ◌≡◌ {A = ℕ} 0 1 = cc in omega arith)

same_row : {sep : ℕ} {t : List ℕ} {at : ℕ} {a b : List Span} {m n : ℕ} → whole a m ≡ whole b n → Fields sep t at a m → Fields sep t at b n
same_row {sep} {t} {at} {a} {b} {m} {n} e f =
    let fields : a ≡ b = cc in
    let end : m ≡ n = cc in
    subst (λ x. Fields sep t at b x) end (subst (λ x. Fields sep t at x m) fields f)

module _ (sep : ℕ) (t : List ℕ) where
  fields-more : {at stop : ℕ} {quoted : Bool} → at ≤ length t → field_at sep t at ≡ field_to stop quoted → separator_at sep t stop ≡ true → (r : Row)
      → ((fields : List Span) (end : ℕ) → r ≡ whole fields end → Fields sep t (stop + 1) fields end)
      → (fields : List Span) (end : ℕ) → in_front (span_of at stop quoted) r ≡ whole fields end → Fields sep t at fields end
  unfolding in_front
  fields-more l is s (malformed place) ih fields end e = never-whole place fields end e
  fields-more l is s (whole rest m) ih fields end e = same_row e (more l is s (ih rest m refl))

  fields-step : (at : ℕ) → at ≤ length t → (next : ℕ → Row)
      → ((from : ℕ) → from ≤ length t → (fields : List Span) (end : ℕ) → next from ≡ whole fields end → Fields sep t from fields end)
      → (f : Result FieldEnd Malformed) → field_at sep t at ≡ f
      → (fields : List Span) (end : ℕ) → step_of_row sep t at f next ≡ whole fields end → Fields sep t at fields end
  unfolding step_of_row
  fields-step at l next ih (Err m) is fields end e = never-whole m.place fields end e
  fields-step at l next ih (Ok f) is fields end e =
      by-test (separator_at sep t f.end)
      (λ s. fields-more l is s (next (f.end + 1)) (ih (f.end + 1) (omega (arith, separator-inside sep t f.end s))) fields end (rw s at e))
      (λ s. same_row (rw s at e) (last l is s))

  fields-by : (turns at : ℕ) → at ≤ length t → (fields : List Span) (end : ℕ) → row_by turns sep t at ≡ whole fields end → Fields sep t at fields end
  unfolding row_by
  fields-by zero at l fields end e = never-whole at fields end e
  fields-by (suc turns) at l fields end e =
      fields-step at l (row_by turns sep t) (fields-by turns) (field_at sep t at) refl fields end e

  pub fields-of : (at : ℕ) → at ≤ length t → (fields : List Span) (end : ℕ) → row_at sep t at ≡ whole fields end → Fields sep t at fields end
  unfolding row_at
  fields-of at l fields end e = fields-by (length t - at + 1) at l fields end e

-- ---- what is told stands in the text

pub record Inside (t : List ℕ) (told : Outcome) : Type 0 where
  pub within : place_of told + length_of told ≤ length t

nowhere : (t values : List ℕ) → Inside t (absent values)
unfolding place_of length_of
nowhere t values = record { within = omega arith }

module _ (sep : ℕ) (t : List ℕ) where
  span-inside : (at end : ℕ) (quoted : Bool) → at ≤ length t → field_at sep t at ≡ field_to end quoted
      → Inside t (answered (span_values (span_of at end quoted)))
  unfolding place_of length_of span_values
  span-inside at end quoted l e =
      record { within = omega (arith, field-forward sep t at end quoted e, field-inside sep t at end quoted l e) }

  column-inside : {at end : ℕ} {fields : List Span} → Fields sep t at fields end → (column : ℕ) → Inside t (column_of fields column)
  unfolding column_of
  column-inside (last {at} {end} {quoted} l is s) zero = span-inside at end quoted l is
  column-inside (last l is s) (suc column) = nowhere t []
  column-inside (more {at} {stop} {end} {quoted} l is s f) zero = span-inside at stop quoted l is
  column-inside (more l is s f) (suc column) = column-inside f column

  field-in-inside : (at column : ℕ) → at ≤ length t → (r : Row) → row_at sep t at ≡ r → Inside t (field_in r column)
  unfolding field_in
  field-in-inside at column l (whole fields end) e = column-inside (fields-of sep t at l fields end e) column
  field-in-inside at column l (malformed place) e = nowhere t []

after-inside : (t : List ℕ) (k : Check) (told : Outcome) → Inside t told → Inside t (after k told)
unfolding after place_of length_of
after-inside t silent told i = i
after-inside t (refused number place) told i = record { within = omega arith }

cond-inside : (t : List ℕ) (there : Bool) (told : Outcome) → (there ≡ true → Inside t told) → Inside t (cond there told (absent []))
cond-inside t true told i = i refl
cond-inside t false told i = nowhere t []

pub outcome-inside : (t : List ℕ) (at sep column : ℕ) → Inside t (field_outcome t at sep column)
unfolding of_row
outcome-inside t at sep column =
    after-inside t (separator_check sep) _
    (cond-inside t _ _ (λ e. let l = ltb-true at (length t) e in field-in-inside sep t at column (omega arith) (row_at sep t at) refl))

-- A field that is found: its place and length are those that are told.
pub record FoundAt (t : List ℕ) (told : Outcome) (f : Span) : Type 0 where
  pub place : place_of told ≡ f.at
  pub size : length_of told ≡ f.length
  pub inside : f.at + f.length ≤ length t

pub part-found : {t : List ℕ} {told : Outcome} {f : Span} → FoundAt t told f → take (f.at + f.length - f.at) (drop f.at t) ≡ field_part t told
part-found {t} {told} {f} g =
    ap₂ (λ n p. take n (drop p t)) (add-sub_cancel_left f.at f.length ∙ sym g.size) (sym g.place)

pub part_none : (t : List ℕ) (told : Outcome) → (place_of told ≡ 0) × (length_of told ≡ 0) → [] ≡ field_part t told
part_none t told e = sym (ap₂ (λ n p. take n (drop p t)) e.1 e.0)

module _ (t : List ℕ) (at sep column : ℕ) where
  pub found_at : {f : Span} → answered (span_values f) ≡ field_outcome t at sep column → FoundAt t (field_outcome t at sep column) f
  unfolding span_values place_of length_of
  found_at {f} is =
      let p : place_of (field_outcome t at sep column) ≡ f.at = ap place_of (sym is) in
      let n : length_of (field_outcome t at sep column) ≡ f.length = ap length_of (sym is) in
      record { place = p; size = n; inside = omega (arith, (outcome-inside t at sep column).within) }

-- and no part where nothing is told
pub part-absent : (t values : List ℕ) (told : Outcome) → absent values ≡ told → ([] ≡ field_part t told) × (place_of told ≡ 0)
unfolding place_of length_of
part-absent t values told e = (part_none t told (ap place_of (sym e), ap length_of (sym e)), ap place_of (sym e))

pub part-refused : (t : List ℕ) (n p : ℕ) (told : Outcome) → refusal n p ≡ told → ([] ≡ field_part t told) × (place_of told ≡ 0)
unfolding place_of length_of
part-refused t n p told e = (part_none t told (ap place_of (sym e), ap length_of (sym e)), ap place_of (sym e))
