-- Laws of the rows of separated text: where a field ends, the row one field on, and what holds of each field.
use mathlib.Core.Path.{◌≡◌, refl, sym, ap, ap₂, ◌∙◌}
use mathlib.Core.Bool.{Bool, true, false}
use mathlib.Core.List.{List, [], ◌∷◌, ◌++◌}
use mathlib.Core.Logic.{◌⊎◌, inl, inr, ⊎_elim}
use Prim.Native.Nat.{ℕ, zero, suc, ◌+◌, ◌-◌, ◌≤◌, ◌<◌}
use native.Mathlib.Nat.{not-suc-le-zero}
use native.Mathlib.Numerals.{add-one}
use native.Mathlib.Omega.{arith}
use borrow.Author.Tests.{ltb-true, eqb-true, eqb-false}
use lib.Dec.{ltb, eqb}
use lib.ListN.{length, drop, length-drop, length-append}
use Rattle.parts.specs.Part.{byte_at}
use Rattle.parts.proofs.Laws.{by-test, both}
use Rattle.std.specs.Prelude.{Option, Some, None, Result, Ok, Err}
use Rattle.worklist.specs.declared.Malformed.{Malformed}
use Rattle.worklist.specs.declared.FieldEnd.{FieldEnd}
use Rattle.worklist.specs.declared.Span.{Span}
use Rattle.worklist.specs.declared.Walked.{Walked}
use Rattle.worklist.proofs.Laws.{there}
use Rattle.worklist.specs.Rows.{quote, stops, stop_from, stop_at, closing_from, closing_at, ends_field, quoted_field, field_at, field_to, faulty}
use Rattle.worklist.specs.Rows.{Row, whole, malformed, in_front, separator_at, span_of, step_of_row, row_by, row_at, RowRule, found_in, walked_of}

-- ---- where a field ends

pub stop-range : (sep at : ℕ) (s : List ℕ) → (at ≤ stop_from sep at s) × (stop_from sep at s ≤ at + length s)
unfolding stop_from
stop-range sep at [] = (omega arith, omega arith)
stop-range sep at (b ∷ s) =
    by-test (stops sep b) (λ e. rw e (omega arith, omega arith))
    (λ e. let r = stop-range sep (at + 1) s in rw e (omega (arith, r.0), omega (arith, r.1)))

pub closing-range : (pending : Bool) (at : ℕ) (s : List ℕ) (end : ℕ) → closing_from pending at s ≡ Some end → (at ≤ end) × (end ≤ at + length s)
unfolding closing_from
closing-range false at [] end e = absurd (let z : ◌≡◌ {A = ℕ} 0 1 = cc in omega arith)
closing-range true at [] end e = let q : at ≡ end = cc in (omega arith, omega arith)
closing-range false at (b ∷ s) end e =
    let r = closing-range (eqb b quote) (at + 1) s end e in (omega (arith, r.0), omega (arith, r.1))
closing-range true at (b ∷ s) end e =
    by-test (eqb b quote)
    (λ h. let r = closing-range false (at + 1) s end (rw h at e) in (omega (arith, r.0), omega (arith, r.1)))
    (λ h. let g : Some at ≡ Some end = rw h at e in let q : at ≡ end = cc in (omega arith, omega arith))

pub field-same : {a b : ℕ} {p q : Bool} → field_to a p ≡ field_to b q → (a ≡ b) × (p ≡ q)
field-same {a} {b} {p} {q} e =
    let r : ◌≡◌ {A = FieldEnd} (record { end = a; quoted = p }) (record { end = b; quoted = q }) = cc in
    (ap (λ f. f.end) r, ap (λ f. f.quoted) r)

-- What is known of a field that is whole: a plain one, or a quoted one.
pub record Plain (sep : ℕ) (t : List ℕ) (at end : ℕ) (quoted : Bool) : Type 0 where
  pub no-quote : byte_at t at ≡ quote → ⊥
  pub unquoted : quoted ≡ false
  pub stop : stop_at sep t at ≡ end

pub record Quoted (sep : ℕ) (t : List ℕ) (at end : ℕ) (quoted : Bool) : Type 0 where
  pub opened : byte_at t at ≡ quote
  pub in_quotes : quoted ≡ true
  pub closed : closing_at t (at + 1) ≡ Some end
  pub ended : ends_field sep t end ≡ true

module _ (sep : ℕ) (t : List ℕ) (at end : ℕ) (quoted : Bool) where
  by-closing : (k : Option ℕ) → closing_at t (at + 1) ≡ k → byte_at t at ≡ quote → quoted_field sep t at k ≡ field_to end quoted → Quoted sep t at end quoted
  unfolding quoted_field
  by-closing None q o e = absurd (let z : ◌≡◌ {A = ℕ} 0 1 = cc in omega arith)
  by-closing (Some place) q o e =
      by-test (ends_field sep t place)
      (λ h.
      let g : field_to place true ≡ field_to end quoted = rw h at e in
      let same = (field-same g).0 in
      let yes = (field-same g).1 in
      record { opened = o; in_quotes = sym yes; closed = q ∙ ap Some same; ended = ap (ends_field sep t) (sym same) ∙ h })
      (λ h. let g : faulty place ≡ field_to end quoted = rw h at e in absurd (let z : ◌≡◌ {A = ℕ} 0 1 = cc in omega arith))

  pub field-cases : field_at sep t at ≡ field_to end quoted → Plain sep t at end quoted ⊎ Quoted sep t at end quoted
  unfolding field_at
  field-cases e =
      by-test (eqb (byte_at t at) quote)
      (λ h. inr (by-closing (closing_at t (at + 1)) refl (eqb-true _ _ h) (rw h at e)))
      (λ h.
      let g : field_to (stop_at sep t at) false ≡ field_to end quoted = rw h at e in
      let same = (field-same g).0 in
      let no = (field-same g).1 in
      inl (record { no-quote = eqb-false _ _ h; unquoted = sym no; stop = same }))

  pub field-forward : field_at sep t at ≡ field_to end quoted → at ≤ end
  field-forward e =
      ⊎_elim (λ p. omega (arith, (stop-range sep at (drop at t)).0, p.stop))
      (λ q. omega (arith, (closing-range false (at + 1) (drop (at + 1) t) end q.closed).0)) (field-cases e)

  pub field-inside : at ≤ length t → field_at sep t at ≡ field_to end quoted → end ≤ length t
  field-inside l e =
      ⊎_elim (λ p. omega (arith, (stop-range sep at (drop at t)).1, p.stop, length-drop at t))
      (λ q.
      let l = there t at quote (sym q.opened) (omega arith) in
      omega (arith, (closing-range false (at + 1) (drop (at + 1) t) end q.closed).1, length-drop (at + 1) t))
      (field-cases e)

-- ---- a row, one field on

pub separator-inside : (sep : ℕ) (t : List ℕ) (at : ℕ) → separator_at sep t at ≡ true → at < length t
unfolding separator_at
separator-inside sep t at e = ltb-true _ _ (both (ltb at (length t)) (eqb (byte_at t at) sep) e).0

module _ (sep : ℕ) (t : List ℕ) where
  step_same : (at : ℕ) (f : Result FieldEnd Malformed) (n m : ℕ → Row)
      → ((end : ℕ) (quoted : Bool) → f ≡ field_to end quoted → separator_at sep t end ≡ true → n (end + 1) ≡ m (end + 1))
      → step_of_row sep t at f n ≡ step_of_row sep t at f m
  unfolding step_of_row
  step_same at (Err m) n o h = refl
  step_same at (Ok f) n m h =
      by-test (separator_at sep t f.end) (λ e. rw e (ap (in_front (span_of at f.end f.quoted)) (h f.end f.quoted refl e))) (λ e. rw e)

  row_same : (f g at : ℕ) → length t - at < f → length t - at < g → row_by f sep t at ≡ row_by g sep t at
  unfolding row_by
  row_same zero g at l m = absurd (not-suc-le-zero l)
  row_same (suc f) zero at l m = absurd (not-suc-le-zero m)
  row_same (suc f) (suc g) at l m =
      step_same at (field_at sep t at) (row_by f sep t) (row_by g sep t)
      (λ end quoted e s. row_same f g (end + 1)
      (omega (arith, field-forward sep t at end quoted e, separator-inside sep t end s))
      (omega (arith, field-forward sep t at end quoted e, separator-inside sep t end s)))

  pub row_step : RowRule sep t
  unfolding row_at row_by
  row_step at =
      ap (λ n. row_by n sep t at) (add-one (length t - at))
      ∙ step_same at (field_at sep t at) (row_by (length t - at) sep t) (λ from. row_by (length t - from + 1) sep t from)
      (λ end quoted e s. row_same (length t - at) (length t - (end + 1) + 1) (end + 1)
      (omega (arith, field-forward sep t at end quoted e, separator-inside sep t end s)) (omega arith))

-- ---- fields in front of a row

unfoldable pub prepend : List Span → Row → Row
prepend [] r = r
prepend (f ∷ done) r = in_front f (prepend done r)

prepend-one : (done : List Span) (f : Span) (r : Row) → prepend (done ++ (f ∷ [])) r ≡ prepend done (in_front f r)
unfolding prepend
prepend-one [] f r = refl
prepend-one (g ∷ done) f r = ap (in_front g) (prepend-one done f r)

prepend-malformed : (done : List Span) (place : ℕ) → prepend done (malformed place) ≡ malformed place
unfolding prepend in_front
prepend-malformed [] place = refl
prepend-malformed (g ∷ done) place = ap (in_front g) (prepend-malformed done place)

prepend-whole : (done fields : List Span) (end : ℕ) → prepend done (whole fields end) ≡ whole (done ++ fields) end
unfolding prepend in_front
prepend-whole [] fields end = refl
prepend-whole (g ∷ done) fields end = ap (in_front g) (prepend-whole done fields end)

-- the field of a column, one field on
found-here : (done : List Span) (f : Span) → found_in (done ++ (f ∷ [])) (length done) ≡ Some f
unfolding found_in
found-here [] f = refl
found-here (g ∷ done) f = found-here done f

found-other : (done : List Span) (f : Span) (column : ℕ) → (length done ≡ column → ⊥) → found_in (done ++ (f ∷ [])) column ≡ found_in done column
unfolding found_in
found-other [] f zero n = absurd (n refl)
found-other [] f (suc column) n = refl
found-other (g ∷ done) f zero n = refl
found-other (g ∷ done) f (suc column) n = found-other done f column (λ e. n (ap suc e))

-- ---- reading a row

-- The fields before a place are read, and the row from there on is left.
pub record Walking (sep : ℕ) (t : List ℕ) (at column from fields : ℕ) (found : Option Span) : Type 0 where
  pub done : List Span
  pub same : row_at sep t at ≡ prepend done (row_at sep t from)
  pub count : fields ≡ length done
  pub kept : found ≡ found_in done column
  pub few : fields ≤ from
  pub inside : from ≤ length t

pub walking-none : (sep : ℕ) (t : List ℕ) (at column : ℕ) → at ≤ length t → Walking sep t at column at 0 None
unfolding prepend found_in
walking-none sep t at column l = record { done = []; same = refl; count = refl; kept = refl; few = omega arith; inside = l }

module _ {sep : ℕ} {t : List ℕ} {at column from fields : ℕ} {found : Option Span} (w : Walking sep t at column from fields found) where
  pub walked-malformed : {m : Malformed} → field_at sep t from ≡ Err m → Err m ≡ walked_of (row_at sep t at) column
  unfolding step_of_row walked_of
  walked-malformed {m} e =
      sym (ap (λ r. walked_of r column) (w.same ∙ ap (prepend w.done) (row_step sep t from ∙ rw e) ∙ prepend-malformed w.done m.place))

  module _ (f : FieldEnd) (is : field_at sep t from ≡ Ok f) where
    abbrev pub one : Span
    one = span_of from f.end f.quoted

    abbrev pub done : List Span
    done = w.done ++ (one ∷ [])

    pub kept-here : fields ≡ column → Some (span_of from f.end f.quoted) ≡ found_in done column
    kept-here e = sym (ap (found_in done) (sym (sym w.count ∙ e)) ∙ found-here w.done one)

    pub kept-other : (fields ≡ column → ⊥) → found ≡ found_in done column
    kept-other e = w.kept ∙ sym (found-other w.done one column (λ h. e (w.count ∙ h)))

    counted : fields + 1 ≡ length done
    counted = omega (arith, w.count, length-append w.done (one ∷ []))

    module _ (next : Option Span) (n : next ≡ found_in done column) where
      pub walked_whole : separator_at sep t f.end ≡ false
          → ◌≡◌ {A = Result Walked Malformed} (Ok (record { end = f.end; fields = fields + 1; found = next })) (walked_of (row_at sep t at) column)
      unfolding step_of_row walked_of
      walked_whole s =
          ap₂ (λ c g. Ok (record { end = f.end; fields = c; found = g })) counted n
          ∙ sym (ap (λ r. walked_of r column)
          (w.same ∙ ap (prepend w.done) (row_step sep t from ∙ rw (is, s)) ∙ prepend-whole w.done (one ∷ []) f.end))

      pub walking_on : separator_at sep t f.end ≡ true → Walking sep t at column (f.end + 1) (fields + 1) next
      unfolding step_of_row
      walking_on s = record {
        done = done;
        same =
            w.same ∙ ap (prepend w.done) (row_step sep t from ∙ rw (is, s))
            ∙ sym (prepend-one w.done one (row_at sep t (f.end + 1)));
        count = counted;
        kept = n;
        few = omega (arith, w.few, field-forward sep t from f.end f.quoted is);
        inside = omega (arith, separator-inside sep t f.end s);
      }
