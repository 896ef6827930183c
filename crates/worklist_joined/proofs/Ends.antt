-- Where a row of separated text ends: at a line end, or at the text's end.
use mathlib.Core.Path.{◌≡◌, refl, sym, ap, ◌∙◌, subst}
use mathlib.Core.Bool.{Bool, true, false, ◌||◌, false≢true}
use mathlib.Core.List.{List, [], ◌∷◌}
use mathlib.Core.Logic.{◌⊎◌, inl, inr, ⊎_elim}
use Prim.Native.Nat.{ℕ, zero, suc, ◌+◌, ◌-◌, ◌≤◌}
use native.Mathlib.Omega.{arith}
use borrow.Author.Tests.{ltb-false, leb-true, eqb-true}
use lib.Dec.{ltb, leb, eqb}
use lib.ListN.{length, drop, length-drop}
use lib.Seq.{get_or-drop}
use Rattle.parts.specs.Part.{byte_at}
use Rattle.parts.proofs.Laws.{by-test}
use Rattle.std.specs.Prelude.{Option, Some, None, Result, Ok, Err}
use Rattle.worklist.specs.declared.Malformed.{Malformed}
use Rattle.worklist.specs.declared.FieldEnd.{FieldEnd}
use Rattle.worklist.specs.declared.Span.{Span}
use Rattle.worklist.specs.Rows.{quote, cr, lf, stops, stop_from, stop_at, closing_at, ends_field, quoted_field, field_at, field_to, faulty}
use Rattle.worklist.specs.Rows.{separator_at, span_of}
use Rattle.worklist.specs.Rows.{Row, whole, malformed, in_front, step_of_row, row_by, row_at, row_end}
use Rattle.worklist.proofs.Laws.{there}
use Rattle.worklist.proofs.Rows.{stop-range, closing-range, field-cases, field-forward, field-inside, separator-inside}
use Rattle.worklist.proofs.Fields.{Fields, last, more, fields-of}

-- ---- the end of a line

-- The text ends at a place, or a line end stands there.
pub record EndsLine (t : List ℕ) (end : ℕ) : Type 0 where
  pub here : (end ≡ length t) ⊎ (stops lf (byte_at t end) ≡ true)

line-stop : (b : ℕ) (p q r : Bool) → eqb b cr ≡ p → eqb b lf ≡ q → (r || (p || q)) ≡ true → r ≡ false → stops lf b ≡ true
unfolding stops
line-stop b p true r e f h g = rw f
line-stop b true false r e f h g = rw (f, e)
line-stop b false false true e f h g = absurd (false≢true (sym g))
line-stop b false false false e f h g = absurd (false≢true h)

-- what stops and is no separator is a line end
stop-line : (sep : ℕ) (t : List ℕ) (end : ℕ) → end ≤ length t → separator_at sep t end ≡ false → stops sep (byte_at t end) ≡ true → EndsLine t end
unfolding separator_at stops
stop-line sep t end l s h =
    by-test (ltb end (length t))
    (λ e. record { here = inr (line-stop (byte_at t end) (eqb (byte_at t end) cr) (eqb (byte_at t end) lf) (eqb (byte_at t end) sep) refl refl h (rw e at s)) })
    (λ e. record { here = inl (omega (arith, ltb-false end (length t) e)) })

-- a plain run of bytes ends at the end or at what stops it
stop-at : (sep at : ℕ) (s : List ℕ) → (stop_from sep at s ≡ at + length s) ⊎ (stops sep (byte_at s (stop_from sep at s - at)) ≡ true)
unfolding stop_from
stop-at sep at [] = inl (omega arith)
stop-at sep at (b ∷ s) =
    by-test (stops sep b)
    (λ e. inr (rw e (let none : at - at ≡ 0 = omega arith in rw none e)))
    (λ e. rw e (⊎_elim (λ p. inl (omega (arith, p)))
    (λ p. inr (let one : stop_from sep (at + 1) s - at ≡ suc (stop_from sep (at + 1) s - (at + 1)) = omega (arith, (stop-range sep (at + 1) s).0) in rw one p))
    (stop-at sep (at + 1) s)))

stop-ends : (sep : ℕ) (t : List ℕ) (at : ℕ) → at ≤ length t → (stop_at sep t at ≡ length t) ⊎ (stops sep (byte_at t (stop_at sep t at)) ≡ true)
stop-ends sep t at l =
    ⊎_elim (λ p. inl (omega (arith, p, length-drop at t)))
    (λ p. inr (let place : at + (stop_at sep t at - at) ≡ stop_at sep t at = omega (arith, (stop-range sep at (drop at t)).0) in
    subst (λ n. stops sep (byte_at t n) ≡ true) place (subst (λ b. stops sep b ≡ true) (get_or-drop at t (stop_at sep t at - at) 0) p)))
    (stop-at sep at (drop at t))

-- ---- where a row ends

module _ (sep : ℕ) (t : List ℕ) where
  field-ends : (at end : ℕ) (quoted : Bool) → at ≤ length t → field_at sep t at ≡ field_to end quoted → separator_at sep t end ≡ false → EndsLine t end
  unfolding ends_field
  field-ends at end quoted l e s =
      let within = field-inside sep t at end quoted l e in
      ⊎_elim
      (λ p. ⊎_elim (λ z. record { here = inl (sym p.stop ∙ z) })
      (λ z. stop-line sep t end within s (subst (λ n. stops sep (byte_at t n) ≡ true) p.stop z)) (stop-ends sep t at l))
      (λ q. by-test (leb (length t) end)
      (λ z. record { here = inl (omega (arith, leb-true (length t) end z)) })
      (λ z. stop-line sep t end within s (rw z at q.ended)))
      (field-cases sep t at end quoted e)

  -- a row ends behind its beginning, in the text, at a line end or at the text's end
  pub record Ends (at end : ℕ) : Type 0 where
    pub forward : at ≤ end
    pub inside : end ≤ length t
    pub line : EndsLine t end

  pub fields-end : {at end : ℕ} {fields : List Span} → Fields sep t at fields end → Ends at end
  fields-end (last {at} {end} {quoted} l is s) = record {
    forward = field-forward sep t at end quoted is;
    inside = field-inside sep t at end quoted l is;
    line = field-ends at end quoted l is s;
  }
  fields-end (more {at} {stop} {end} {quoted} l is s f) =
      let e = fields-end f in
      record { forward = omega (arith, field-forward sep t at stop quoted is, e.forward); inside = e.inside; line = e.line }

  place-same : {a b : ℕ} → ◌≡◌ {A = Result FieldEnd Malformed} (faulty a) (faulty b) → a ≡ b
  place-same {a} {b} e =
      let r : ◌≡◌ {A = Malformed} (record { place = a }) (record { place = b }) = cc in
      ap (λ m. m.place) r

  -- the place where a row is malformed
  pub record Faulty (at place : ℕ) : Type 0 where
    pub forward : at ≤ place
    pub inside : place ≤ length t

  by-closing : (at place : ℕ) → byte_at t at ≡ quote → (k : Option ℕ) → closing_at t (at + 1) ≡ k → quoted_field sep t at k ≡ faulty place → Faulty at place
  unfolding quoted_field
  by-closing at place o None q e =
      let same = place-same e in
      record { forward = omega arith; inside = omega (arith, there t at quote (sym o) (omega arith)) }
  by-closing at place o (Some end) q e =
      by-test (ends_field sep t end)
      (λ h. let g : field_to end true ≡ faulty place = rw h at e in absurd (let z : ◌≡◌ {A = ℕ} 0 1 = cc in omega arith))
      (λ h.
      let g : faulty end ≡ faulty place = rw h at e in
      let same = place-same g in
      let r = closing-range false (at + 1) (drop (at + 1) t) end q in
      record {
        forward = omega (arith, r.0);
        inside = omega (arith, r.1, length-drop (at + 1) t, there t at quote (sym o) (omega arith));
      })

  field-faulty : (at place : ℕ) → field_at sep t at ≡ faulty place → Faulty at place
  unfolding field_at
  field-faulty at place e =
      by-test (eqb (byte_at t at) quote)
      (λ h. by-closing at place (eqb-true _ _ h) (closing_at t (at + 1)) refl (rw h at e))
      (λ h. let g : field_to (stop_at sep t at) false ≡ faulty place = rw h at e in absurd (let z : ◌≡◌ {A = ℕ} 0 1 = cc in omega arith))

  faulty-more : (at stop place : ℕ) (f : Span) → at ≤ stop → (r : Row) → ((p : ℕ) → r ≡ malformed p → Faulty (stop + 1) p)
      → in_front f r ≡ malformed place → Faulty at place
  unfolding in_front
  faulty-more at stop place f l (whole fields end) ih e = absurd (let z : ◌≡◌ {A = ℕ} 0 1 = cc in omega arith)
  faulty-more at stop place f l (malformed p) ih e =
      let i = ih place e in
      record { forward = omega (arith, i.forward); inside = i.inside }

  faulty-step : (at place : ℕ) → at ≤ length t → (next : ℕ → Row) → ((from : ℕ) → from ≤ length t → (p : ℕ) → next from ≡ malformed p → Faulty from p)
      → (f : Result FieldEnd Malformed) → field_at sep t at ≡ f → step_of_row sep t at f next ≡ malformed place → Faulty at place
  unfolding step_of_row
  faulty-step at place l next ih (Err m) is e =
      let same : m.place ≡ place = cc in field-faulty at place (is ∙ ap faulty same)
  faulty-step at place l next ih (Ok f) is e =
      by-test (separator_at sep t f.end)
      (λ s. faulty-more at f.end place (span_of at f.end f.quoted) (field-forward sep t at f.end f.quoted is) (next (f.end + 1))
      (ih (f.end + 1) (omega (arith, separator-inside sep t f.end s))) (rw s at e))
      (λ s. let g : whole (span_of at f.end f.quoted ∷ []) f.end ≡ malformed place = rw s at e in absurd (let z : ◌≡◌ {A = ℕ} 0 1 = cc in omega arith))

  faulty-by : (turns at : ℕ) → at ≤ length t → (place : ℕ) → row_by turns sep t at ≡ malformed place → Faulty at place
  unfolding row_by
  faulty-by zero at l place e = let same : at ≡ place = cc in record { forward = omega arith; inside = omega arith }
  faulty-by (suc turns) at l place e =
      faulty-step at place l (row_by turns sep t) (faulty-by turns) (field_at sep t at) refl e

  pub row_ends : (at : ℕ) → at ≤ length t → (r : Row) → row_at sep t at ≡ r → Ends at (row_end t r)
  unfolding row_end row_at
  row_ends at l (whole fields end) e = fields-end (fields-of sep t at l fields end e)
  row_ends at l (malformed place) e =
      let f = faulty-by (length t - at + 1) at l place e in
      let r = stop-range lf place (drop place t) in
      record {
        forward = omega (arith, f.forward, r.0);
        inside = omega (arith, f.inside, r.1, length-drop place t);
        line = record { here = stop-ends lf t place f.inside };
      }
