-- What a field holds: rule D11.
use mathlib.Core.Path.{◌≡◌, refl, sym, ap, ap₂, ◌∙◌, subst}
use mathlib.Core.Bool.{Bool, true, false, false≢true}
use mathlib.Core.List.{List, [], ◌∷◌, ◌++◌}
use mathlib.Core.Logic.{⊎_elim}
use Prim.Native.Nat.{ℕ, zero, suc, ◌+◌, ◌-◌, ◌≤◌, ◌<◌}
use native.Mathlib.Nat.{le_of_suc-le-suc}
use native.Mathlib.Omega.{arith}
use borrow.Author.Tests.{eqb-true}
use lib.Dec.{eqb}
use lib.ListN.{length, take, drop}
use lib.Seq.{get_or-drop}
use Rattle.parts.specs.Part.{byte_at, part_at}
use Rattle.parts.proofs.Laws.{by-test}
use Rattle.std.specs.Prelude.{Some}
use Rattle.worklist.specs.declared.Span.{Span}
use Rattle.worklist.specs.Rows.{quote, stops, stop_from, closing_from, field_at, field_to, span_of, span_in}
use Rattle.worklist.proofs.Laws.{there, behind}
use Rattle.worklist.proofs.Rows.{closing-range, Quoted, field-cases}
use Rattle.worklist.proofs.Fields.{Fields, last, more, fields-of}
use Rattle.worklist_unquoted.specs.Unquoted.{in_front, doubled, content_of, quoted_text}
use Rattle.worklist_unquoted.proofs.Quoting.{back}
use Rattle.worklist_joined.specs.Joined.{Holds, FieldsHold}

-- ---- a plain field

no_stop : (sep at : ℕ) (s : List ℕ) (i : ℕ) → i < stop_from sep at s - at → stops sep (byte_at s i) ≡ false
unfolding stop_from
no_stop sep at [] i l = absurd (omega arith)
no_stop sep at (b ∷ s) zero l = by-test (stops sep b) (λ e. absurd (omega (arith, rw e at l))) (λ e. e)
no_stop sep at (b ∷ s) (suc i) l =
    by-test (stops sep b) (λ e. absurd (omega (arith, rw e at l)))
    (λ e. no_stop sep (at + 1) s i (let h : suc i < stop_from sep (at + 1) s - at = rw e at l in omega arith))

-- ---- a quoted field

-- A content, each quote doubled, and the closing quote behind it.
record Closed (bytes : List ℕ) : Type 0 where
  pub content : List ℕ
  pub is : bytes ≡ doubled content ++ (quote ∷ [])

closed_none : Closed (quote ∷ [])
unfolding doubled
closed_none = record { content = []; is = refl }

closed-other : (b : ℕ) {bytes : List ℕ} → eqb b quote ≡ false → Closed bytes → Closed (b ∷ bytes)
unfolding doubled in_front
closed-other b e c = record { content = b ∷ c.content; is = ap (λ r. b ∷ r) c.is ∙ rw e }

closed-doubled : {bytes : List ℕ} → Closed bytes → Closed (quote ∷ quote ∷ bytes)
unfolding doubled in_front
closed-doubled c = record { content = quote ∷ c.content; is = ap (λ r. quote ∷ quote ∷ r) c.is }

-- the quote that waits for what follows it
pending-quote : Bool → List ℕ → List ℕ
pending-quote true bytes = quote ∷ bytes
pending-quote false bytes = bytes

step : (at end : ℕ) → at + 1 ≤ end → (b : ℕ) (s : List ℕ) → take (end - at) (b ∷ s) ≡ b ∷ take (end - (at + 1)) s
step at end l b s = let size : end - at ≡ suc (end - (at + 1)) = omega arith in rw size

closed-by : (pending : Bool) (at : ℕ) (s : List ℕ) (end : ℕ) → closing_from pending at s ≡ Some end → Closed (pending-quote pending (take (end - at) s))
unfolding closing_from pending-quote
closed-by false at [] end e = absurd (let z : ◌≡◌ {A = ℕ} 0 1 = cc in omega arith)
closed-by true at [] end e = let same : at ≡ end = cc in let none : end - at ≡ 0 = omega arith in rw none closed_none
closed-by false at (b ∷ s) end e =
    by-test (eqb b quote)
    (λ h.
    let g : closing_from true (at + 1) s ≡ Some end = ap (λ p. closing_from p (at + 1) s) (sym h) ∙ e in
    let is : b ≡ quote = eqb-true _ _ h in
    rw (step at end (closing-range true (at + 1) s end g).0 b s, is) (closed-by true (at + 1) s end g))
    (λ h.
    let g : closing_from false (at + 1) s ≡ Some end = ap (λ p. closing_from p (at + 1) s) (sym h) ∙ e in
    rw (step at end (closing-range false (at + 1) s end g).0 b s) (closed-other b h (closed-by false (at + 1) s end g)))
closed-by true at (b ∷ s) end e =
    by-test (eqb b quote)
    (λ h.
    let g : closing_from false (at + 1) s ≡ Some end = rw h at e in
    let is : b ≡ quote = eqb-true _ _ h in
    rw (step at end (closing-range false (at + 1) s end g).0 b s, is) (closed-doubled (closed-by false (at + 1) s end g)))
    (λ h.
    let g : Some at ≡ Some end = rw h at e in
    let same : at ≡ end = cc in
    let none : end - at ≡ 0 = omega arith in
    rw none closed_none)

-- ---- a field of a row

module _ (sep : ℕ) (t : List ℕ) where
  quoted-bytes : (at end : ℕ) (quoted : Bool) → Quoted sep t at end quoted
      → part_at t at (end - at) ≡ quoted_text (content_of (part_at t at (end - at)))
  unfolding pending-quote
  quoted-bytes at end quoted q =
      let c = closed-by false (at + 1) (drop (at + 1) t) end q.closed in
      let r = closing-range false (at + 1) (drop (at + 1) t) end q.closed in
      let is : part_at t at (end - at) ≡ quoted_text c.content =
      ap (take (end - at)) (behind t at (there t at quote (sym q.opened) (omega arith)))
      ∙ step at end r.0 (byte_at t at) (drop (at + 1) t) ∙ ap₂ ◌∷◌ q.opened c.is in
      is ∙ ap quoted_text (sym (ap content_of is ∙ back c.content))

  field-holds : (at end : ℕ) (quoted : Bool) → field_at sep t at ≡ field_to end quoted → Holds sep t (span_of at end quoted)
  field-holds at end quoted e =
      ⊎_elim
      (λ p. record {
        plain = λ h i l. subst (λ b. stops sep b ≡ false) (get_or-drop at t i 0) (no_stop sep at (drop at t) i (omega (arith, p.stop)));
        in_quotes = λ h. absurd (false≢true (sym p.unquoted ∙ h));
      })
      (λ q. record { plain = λ h i l. absurd (false≢true (sym h ∙ q.in_quotes)); in_quotes = λ h. quoted-bytes at end quoted q })
      (field-cases sep t at end quoted e)

  each_holds : {at end : ℕ} {fields : List Span} → Fields sep t at fields end → (column : ℕ) → column < length fields → Holds sep t (span_in fields column)
  unfolding span_in
  each_holds (last {at} {end} {quoted} l is s) zero h = field-holds at end quoted is
  each_holds (last l is s) (suc column) h = absurd (omega arith)
  each_holds (more {at} {stop} {end} {quoted} l is s f) zero h = field-holds at stop quoted is
  each_holds (more l is s f) (suc column) h = each_holds f column (le_of_suc-le-suc h)

  pub fields-hold : FieldsHold sep t
  fields-hold at l fields end e column h = each_holds (fields-of sep t at (omega arith) fields end e) column h
