-- The fields of a row, joined by the separator, are the row: rule D10.
use mathlib.Core.Path.{◌≡◌, refl, sym, ap, ap₂, ◌∙◌, subst}
use mathlib.Core.Bool.{true, false, false≢true}
use mathlib.Core.List.{List, [], ◌∷◌, ◌++◌, append_assoc, append-nil}
use Prim.Native.Nat.{ℕ, zero, suc, ◌+◌, ◌-◌, ◌≤◌, ◌<◌}
use native.Mathlib.Nat.{not-suc-le-zero, le_of_suc-le-suc}
use native.Mathlib.Omega.{arith}
use borrow.Author.Tests.{lt-ltb, le-ltb, eqb-true}
use lib.Dec.{ltb, eqb}
use lib.ListN.{length, take, drop, length-append, drop_of_length-le}
use Rattle.refusal.specs.Outcome.{answered}
use Rattle.parts.specs.Part.{byte_at, part_at, overlay}
use Rattle.parts.proofs.Laws.{by-test, both, overlay-after, part_at-length}
use Rattle.parts.proofs.Parts.{part-add}
use Rattle.std.specs.Prelude.{Some, Result, Ok, Err}
use Rattle.worklist.specs.declared.Malformed.{Malformed}
use Rattle.worklist.specs.declared.RowFound.{RowFound}
use Rattle.worklist.specs.declared.Span.{Span}
use Rattle.worklist.specs.Rows.{no_separator, separator_at, Row, whole, malformed, row_at, row_end, row_kind, row_values, row_outcome}
use Rattle.worklist.specs.Rows.{fields_told, outcome_of_row}
use Rattle.worklist.specs.Rows.{span_values, column_of, field_in, field_outcome, place_of, length_of, field_part, span_in}
use Rattle.worklist.proofs.Laws.{behind}
use Rattle.worklist.proofs.Rows.{field-forward, separator-inside}
use Rattle.worklist.proofs.Fields.{Fields, last, more, fields-of}
use Rattle.worklist.proofs.Told.{row_told, column-here}
use Rattle.worklist_joined.proofs.Ends.{fields-end}
use Rattle.worklist_joined.proofs.RowLaws.{row-told}
use mathlib.Core.Logic.{◌⊎◌, ⊎_elim}
use Rattle.worklist_joined.specs.Joined.{field_bytes, behind_separators, joined_fields, FieldsJoined, field_of, fields_of, joined_row, laid_field, laid_row}
use Rattle.worklist_joined.specs.Joined.{copied_fields, HasFields}

-- ---- the fields of a row, joined

separator-byte-at : (sep : ℕ) (t : List ℕ) (at : ℕ) → separator_at sep t at ≡ true → byte_at t at ≡ sep
unfolding separator_at
separator-byte-at sep t at e = eqb-true _ _ (both (ltb at (length t)) (eqb (byte_at t at) sep) e).1

module _ (sep : ℕ) (t : List ℕ) where
  fields-more : {at end : ℕ} {fields : List Span} → Fields sep t at fields end → behind_separators sep t fields ≡ sep ∷ joined_fields sep t fields
  unfolding behind_separators joined_fields
  fields-more (last l is s) = refl
  fields-more (more l is s f) = refl

  -- a separator in front of a part
  separator-and-part : (stop end : ℕ) → stop < end → separator_at sep t stop ≡ true
      → sep ∷ part_at t (stop + 1) (end - (stop + 1)) ≡ part_at t stop (end - stop)
  separator-and-part stop end l s =
      let size : end - stop ≡ suc (end - (stop + 1)) = omega arith in
      sym (ap₂ take size (behind t stop (separator-inside sep t stop s))
      ∙ ap (λ b. b ∷ part_at t (stop + 1) (end - (stop + 1))) (separator-byte-at sep t stop s))

  two-parts : (at stop end : ℕ) → at ≤ stop → stop ≤ end → part_at t at (stop - at) ++ part_at t stop (end - stop) ≡ part_at t at (end - at)
  two-parts at stop end l m =
      let place : at + (stop - at) ≡ stop = omega arith in
      let size : (stop - at) + (end - stop) ≡ end - at = omega arith in
      ap (λ n. part_at t at (stop - at) ++ part_at t n (end - stop)) (sym place) ∙ sym (part-add t at (stop - at) (end - stop)) ∙ ap (part_at t at) size

  fields-joined-by : {at end : ℕ} {fields : List Span} → Fields sep t at fields end → joined_fields sep t fields ≡ part_at t at (end - at)
  unfolding joined_fields behind_separators
  fields-joined-by (last {at} {end} l is s) = append-nil (part_at t at (end - at))
  fields-joined-by (more {at} {stop} {end} {quoted} {fields} l is s f) =
      let on = (fields-end sep t f).forward in
      ap (λ r. part_at t at (stop - at) ++ r)
      (fields-more f ∙ ap (λ r. sep ∷ r) (fields-joined-by f) ∙ separator-and-part stop end (omega arith) s)
      ∙ two-parts at stop end (field-forward sep t at stop quoted is) (omega arith)

  pub fields-joined : FieldsJoined sep t
  fields-joined at l fields end e = fields-joined-by (fields-of sep t at (omega arith) fields end e)

  fields-some : {at end : ℕ} {fields : List Span} → Fields sep t at fields end → 0 < length fields
  fields-some (last l is s) = omega arith
  fields-some (more l is s f) = omega arith

-- ---- what the row's answer tells of it

not-whole : {A : Type 0} (t : List ℕ) (fields : List Span) (end : ℕ) {end' next place : ℕ}
    → answered (end' ∷ next ∷ 0 ∷ 1 ∷ place ∷ []) ≡ answered (row_values t (whole fields end)) → A
unfolding row_values row_end row_kind
not-whole t fields end e = absurd (let z : ◌≡◌ {A = ℕ} 0 1 = cc in omega arith)

module _ (sep : ℕ) (t : List ℕ) (at : ℕ) where
  -- where no row begins, and where it is malformed, the output stays
  pub stays : (out : List ℕ) → (no_separator sep ≡ true) ⊎ (length t ≤ at) → out ≡ copied_fields sep t at out
  stays out done =
      by-test (no_separator sep) (λ h. rw h)
      (λ h.
      let l : length t ≤ at = ⊎_elim (λ g. absurd (false≢true (sym h ∙ g))) (λ g. g) done in
      rw (h, le-ltb at (length t) l))

  malformed-stays : (r : Row) (out : List ℕ) {end next place : ℕ} → answered (end ∷ next ∷ 0 ∷ 1 ∷ place ∷ []) ≡ answered (row_values t r)
      → out ≡ laid_row t at r out
  unfolding laid_row
  malformed-stays (whole fields end) out e = not-whole t fields end e
  malformed-stays (malformed place) out e = refl

  fields-told : (f : RowFound) {x : Result ℕ Malformed} → outcome_of_row (Ok (Some f)) ≡ row_outcome t at sep → f.fields ≡ x
      → answered (f.end ∷ f.next ∷ fields_told x) ≡ row_outcome t at sep
  fields-told f e g = ap (λ y. answered (f.end ∷ f.next ∷ fields_told y)) (sym g) ∙ e

  pub malformed_row : (out : List ℕ) (f : RowFound) {m : Malformed} → outcome_of_row (Ok (Some f)) ≡ row_outcome t at sep → f.fields ≡ Err m
      → out ≡ copied_fields sep t at out
  malformed_row out f e g =
      let r = row-told t at sep (fields-told f e g) in
      rw (r.separator, lt-ltb at (length t) r.inside) (malformed-stays (row_at sep t at) out r.values)

  count-told : (r : Row) → row_at sep t at ≡ r → at < length t → {end next n : ℕ} → answered (end ∷ next ∷ n ∷ 0 ∷ 0 ∷ []) ≡ answered (row_values t r)
      → (0 < n) × (n ≡ length (fields_of r))
  unfolding row_values row_end row_kind fields_of
  count-told (whole fields stop) is l {n = n} e =
      let count : length fields ≡ n = cc in
      (omega (arith, fields-some sep t (fields-of sep t at (omega arith) fields stop is)), sym count)
  count-told (malformed place) is l e = absurd (let z : ◌≡◌ {A = ℕ} 0 1 = cc in omega arith)

  pub has-fields : (f : RowFound) {n : ℕ} → outcome_of_row (Ok (Some f)) ≡ row_outcome t at sep → f.fields ≡ Ok n → HasFields sep t at n
  has-fields f e g =
      let r = row-told t at sep (fields-told f e g) in
      let c = count-told (row_at sep t at) refl r.inside r.values in
      record { separator = r.separator; inside = r.inside; some = c.0; all = c.1 }

-- ---- a row that has fields

column-of : (r : Row) (column : ℕ) → field_in r column ≡ column_of (fields_of r) column
unfolding field_in fields_of column_of
column-of (whole fields end) column = refl
column-of (malformed place) column = refl

told_part : (t : List ℕ) (f : Span) → field_part t (answered (span_values f)) ≡ field_bytes t f
unfolding span_values place_of length_of
told_part t f = refl

module _ {sep : ℕ} {t : List ℕ} {at count : ℕ} (h : HasFields sep t at count) where
  -- its fields, as they are handed out
  pub field-bytes : (column : ℕ) → column < count → (bytes : List ℕ) → bytes ≡ field_part t (field_outcome t at sep column)
      → bytes ≡ field_bytes t (span_in (fields_of (row_at sep t at)) column)
  field-bytes column l bytes e =
      e ∙ ap (field_part t)
      (sym (row_told sep false (sym h.separator) t at _ refl h.inside refl) ∙ column-of (row_at sep t at) column
      ∙ column-here (fields_of (row_at sep t at)) column (omega (arith, h.all)))
      ∙ told_part t (span_in (fields_of (row_at sep t at)) column)

  row-whole : (r : Row) → row_at sep t at ≡ r → 0 < length (fields_of r) → (out : List ℕ)
      → overlay out 0 (joined_fields sep t (fields_of r)) ≡ laid_row t at r out
  unfolding fields_of laid_row
  row-whole (whole fields end) is l out = ap (overlay out 0) (fields-joined sep t at h.inside fields end is)
  row-whole (malformed place) is l out = absurd (omega arith)

  -- joined, they are the row
  pub joined-row : (out : List ℕ) → overlay out 0 (joined_row sep t at) ≡ copied_fields sep t at out
  joined-row out =
      rw (h.separator, lt-ltb at (length t) h.inside)
      (row-whole (row_at sep t at) refl (omega (arith, h.some, h.all)) out)

  size-by : (r : Row) → row_at sep t at ≡ r → length (joined_fields sep t (fields_of r)) ≤ length t
  unfolding fields_of joined_fields
  size-by (whole fields end) is =
      omega (arith, ap length (fields-joined sep t at h.inside fields end is), part_at-length t at (end - at))
  size-by (malformed place) is = omega arith

  pub joined-size : length (joined_row sep t at) ≤ length t
  joined-size = size-by (row_at sep t at) refl

-- ---- joining field after field

span-drop : (fields : List Span) (column : ℕ) → column < length fields → drop column fields ≡ span_in fields column ∷ drop (column + 1) fields
unfolding span_in
span-drop [] column l = absurd (not-suc-le-zero l)
span-drop (f ∷ fields) zero l = refl
span-drop (f ∷ fields) (suc column) l =
    let next : suc column + 1 ≡ suc (column + 1) = omega arith in
    rw next (span-drop fields column (le_of_suc-le-suc l))

-- The fields before a column are joined.
pub record Joining (sep : ℕ) (t : List ℕ) (fields : List Span) (out₀ : List ℕ) (to column : ℕ) (out : List ℕ) : Type 0 where
  pub done : List ℕ
  pub all : joined_fields sep t fields ≡ done ++ behind_separators sep t (drop column fields)
  pub size : to ≡ length done
  pub laid : out ≡ overlay out₀ 0 done

first-split : (sep : ℕ) (t : List ℕ) (fields : List Span) → 0 < length fields → (first : List ℕ) → first ≡ field_bytes t (span_in fields 0)
    → joined_fields sep t fields ≡ first ++ behind_separators sep t (drop 1 fields)
unfolding joined_fields span_in
first-split sep t [] l first e = absurd (not-suc-le-zero l)
first-split sep t (f ∷ fields) l first e = ap (λ b. b ++ behind_separators sep t fields) (sym e)

module _ {sep : ℕ} {t : List ℕ} {fields : List Span} {out₀ : List ℕ} {to column : ℕ} {out : List ℕ} (j : Joining sep t fields out₀ to column out) where
  pub joining-on : column < length fields → (bytes : List ℕ) → bytes ≡ field_bytes t (span_in fields column)
      → (o₁ o₂ : List ℕ) → o₁ ≡ overlay out to (sep ∷ []) → o₂ ≡ overlay o₁ (to + 1) bytes → Joining sep t fields out₀ (to + (1 + length bytes)) (column + 1) o₂
  unfolding behind_separators
  joining-on l bytes e o₁ o₂ p q =
      let some = j.done ++ (sep ∷ []) in
      let one : to + 1 ≡ 0 + length (j.done ++ (sep ∷ [])) = omega (arith, j.size, length-append j.done (sep ∷ [])) in
      let rest = behind_separators sep t (drop (column + 1) fields) in
      let left : behind_separators sep t (drop column fields) ≡ sep ∷ (bytes ++ behind_separators sep t (drop (column + 1) fields)) =
      ap (behind_separators sep t) (span-drop fields column l) ∙ ap (λ b. sep ∷ (b ++ behind_separators sep t (drop (column + 1) fields))) (sym e) in
      let first : o₁ ≡ overlay out₀ 0 (j.done ++ (sep ∷ [])) =
      p ∙ ap₂ (λ o n. overlay o n (sep ∷ [])) j.laid (omega (arith, j.size)) ∙ overlay-after out₀ 0 j.done (sep ∷ []) in
      record {
        done = (j.done ++ (sep ∷ [])) ++ bytes;
        all = j.all ∙ ap (λ r. j.done ++ r) left ∙ regroup j.done bytes rest;
        size = omega (arith, j.size, length-append (j.done ++ (sep ∷ [])) bytes, length-append j.done (sep ∷ []));
        laid = q ∙ ap₂ (λ o n. overlay o n bytes) first one ∙ overlay-after out₀ 0 (j.done ++ (sep ∷ [])) bytes;
      }
    where
      regroup : (a b c : List ℕ) → a ++ (sep ∷ (b ++ c)) ≡ ((a ++ (sep ∷ [])) ++ b) ++ c
      regroup a b c = sym (append_assoc (a ++ (sep ∷ [])) b c ∙ append_assoc a (sep ∷ []) (b ++ c))

  pub joining-most : to ≤ length (joined_fields sep t fields)
  joining-most = omega (arith, j.size, ap length j.all, length-append j.done (behind_separators sep t (drop column fields)))

  pub joining-end : length fields ≤ column → out ≡ overlay out₀ 0 (joined_fields sep t fields)
  unfolding behind_separators
  joining-end l =
      j.laid ∙ ap (overlay out₀ 0) (sym (j.all ∙ ap (λ r. j.done ++ behind_separators sep t r) (drop_of_length-le fields l) ∙ append-nil j.done))

  -- the place behind the field, as the code has it
  pub joining-put : column < length fields → (bytes : List ℕ) → bytes ≡ field_bytes t (span_in fields column)
      → (next : ℕ) → next ≡ to + (1 + length bytes) → (o : List ℕ) → o ≡ overlay (overlay out to (sep ∷ [])) (to + 1) bytes
      → Joining sep t fields out₀ next (column + 1) o
  joining-put l bytes e next n o p =
      subst (λ m. Joining sep t fields out₀ m (column + 1) o) (sym n) (joining-on l bytes e (overlay out to (sep ∷ [])) o refl p)

-- ---- the first field, which is laid before the others

overlay-over : (to a b : List ℕ) → overlay (overlay to 0 a) 0 (a ++ b) ≡ overlay to 0 (a ++ b)
unfolding overlay
overlay-over [] a b = refl
overlay-over (x ∷ to) [] b = refl
overlay-over (x ∷ to) (y ∷ a) b = ap (λ r. y ∷ r) (overlay-over to a b)

overlay-again : (to a : List ℕ) → overlay (overlay to 0 a) 0 a ≡ overlay to 0 a
overlay-again to a =
    ap (overlay (overlay to 0 a) 0) (sym (append-nil a)) ∙ overlay-over to a [] ∙ ap (overlay to 0) (append-nil a)

module _ {sep : ℕ} {t : List ℕ} {at count : ℕ} (h : HasFields sep t at count) (first : List ℕ) (is : first ≡ field_of sep t at 0)
    (entry out₀ : List ℕ) (o : out₀ ≡ overlay entry 0 first) where
  split : joined_row sep t at ≡ first ++ behind_separators sep t (drop 1 (fields_of (row_at sep t at)))
  split =
      first-split sep t (fields_of (row_at sep t at)) (omega (arith, h.some, h.all)) first (field-bytes h 0 h.some first is)

  pub first-laid : Joining sep t (fields_of (row_at sep t at)) out₀ (length first) 1 out₀
  first-laid =
      record { done = first; all = split; size = refl; laid = o ∙ sym (ap (λ x. overlay x 0 first) o ∙ overlay-again entry first) }

  pub all_laid : {to column : ℕ} {out : List ℕ} → Joining sep t (fields_of (row_at sep t at)) out₀ to column out → count ≤ column
      → out ≡ overlay entry 0 (joined_row sep t at)
  all_laid j l =
      joining-end j (omega (arith, h.all)) ∙ ap₂ (λ x y. overlay x 0 y) o split
      ∙ overlay-over entry first (behind_separators sep t (drop 1 (fields_of (row_at sep t at)))) ∙ ap (overlay entry 0) (sym split)

-- ---- one field more

module _ {sep : ℕ} {t : List ℕ} {at count : ℕ} (h : HasFields sep t at count) {out₀ out : List ℕ} {to column : ℕ}
    (j : Joining sep t (fields_of (row_at sep t at)) out₀ to column out) (l : column < count) where
  pub put_on : (next : ℕ) → next ≡ to + (1 + length (field_of sep t at column)) → (o : List ℕ) → o ≡ laid_field sep t at column out to
      → Joining sep t (fields_of (row_at sep t at)) out₀ next (column + 1) o
  put_on next n o p =
      joining-put j (omega (arith, h.all)) (field_of sep t at column) (field-bytes h column l (field_of sep t at column) refl) next n o p

  pub put-fits : to + (1 + length (field_of sep t at column)) ≤ length t
  put-fits = omega (arith, joining-most (put_on _ refl _ refl), joined-size h)
