-- The rows of separated text, each with its line end, joined, are the text: rule D9.
use mathlib.Core.Path.{◌≡◌, refl, sym, ap, ap₂, ◌∙◌, subst}
use mathlib.Core.Bool.{true, false, false≢true}
use mathlib.Core.List.{List, [], ◌∷◌, ◌++◌}
use mathlib.Core.Logic.{◌⊎◌, inl, inr, ⊎_elim}
use Prim.Native.Nat.{ℕ, zero, suc, ◌+◌, ◌-◌, ◌≤◌, ◌<◌}
use native.Mathlib.Omega.{arith}
use borrow.Author.Tests.{lt-ltb, le-ltb, ltb-true, ltb-false, eqb-true, eqb-false, eq-eqb, ne_eqb}
use lib.Dec.{ltb, eqb}
use lib.ListN.{length, take, drop, length-take, drop_of_length-le, take-append-drop}
use lib.Seq.{drop-drop, take-add, take_all}
use Rattle.refusal.specs.Outcome.{answered, absent, refusal}
use Rattle.parts.specs.Part.{byte_at, part_at, overlay}
use Rattle.parts.proofs.Laws.{by-test, overlay-none, overlay-after}
use Rattle.parts.proofs.Parts.{part-add}
use Rattle.worklist.specs.Rows.{cr, lf, no_separator, behind_line_end, stops, Row, row_at, row_end, row_values, row_outcome, length_of}
use Rattle.worklist.proofs.Laws.{there, behind}
use Rattle.worklist.proofs.Told.{no-separator-told, no-row-told, row_told}
use Rattle.worklist_joined.proofs.Ends.{EndsLine, Ends, row_ends}
use Rattle.worklist_joined.specs.Joined.{Line, line_at, rows_by, rows_of, line_bytes, joined_rows, RowWithEnd, RowsJoined, row_count, copied_rows}
use Rattle.worklist_joined.specs.Joined.{LineEnd, by_lf, by_cr_lf, by_cr, at_end}

-- ---- the line end of a row

one_byte : (t : List ℕ) (at b : ℕ) → b ≡ byte_at t at → 0 < b → part_at t at 1 ≡ b ∷ []
one_byte t at b e h = ap (take 1) (behind t at (there t at b e h)) ∙ ap (λ x. x ∷ []) (sym e)

-- what stands between the end of a row and the next one
record Behind (t : List ℕ) (r : Line) : Type 0 where
  pub line_end : List ℕ
  pub ends : LineEnd t r line_end
  pub bytes : part_at t r.end (r.next - r.end) ≡ line_end
  pub forward : r.end ≤ r.next
  pub inside : r.next ≤ length t
  pub further : r.end < length t → r.end < r.next

module _ (t : List ℕ) (at end next : ℕ) (n : next ≡ behind_line_end t end) where
  row_line : Line
  row_line = record { at = at; end = end; next = next }

  behind-lf : byte_at t end ≡ lf → Behind t row_line
  unfolding behind_line_end row_line
  behind-lf e =
      let is : next ≡ end + 1 = n ∙ rw (eq-eqb (byte_at t end) lf e) in
      let size : next - end ≡ 1 = omega arith in
      record {
        line_end = lf ∷ [];
        ends = by_lf;
        bytes = ap (part_at t end) size ∙ one_byte t end lf (sym e) (omega arith);
        forward = omega arith;
        inside = omega (arith, there t end lf (sym e) (omega arith));
        further = λ h. omega arith;
      }

  behind-cr-lf : byte_at t end ≡ cr → byte_at t (end + 1) ≡ lf → Behind t row_line
  unfolding behind_line_end row_line
  behind-cr-lf e f =
      let is : next ≡ end + 2 = n ∙ rw (ne_eqb (byte_at t end) lf (λ g. omega (arith, e, g)), eq-eqb (byte_at t end) cr e, eq-eqb (byte_at t (end + 1)) lf f) in
      let size : next - end ≡ 1 + 1 = omega arith in
      record {
        line_end = cr ∷ lf ∷ [];
        ends = by_cr_lf;
        bytes =
            ap (part_at t end) size ∙ part-add t end 1 1
            ∙ ap₂ ◌++◌ (one_byte t end cr (sym e) (omega arith)) (one_byte t (end + 1) lf (sym f) (omega arith));
        forward = omega arith;
        inside = omega (arith, there t (end + 1) lf (sym f) (omega arith));
        further = λ h. omega arith;
      }

  behind-cr : byte_at t end ≡ cr → (byte_at t (end + 1) ≡ lf → ⊥) → Behind t row_line
  unfolding behind_line_end row_line
  behind-cr e f =
      let is : next ≡ end + 1 = n ∙ rw (ne_eqb (byte_at t end) lf (λ g. omega (arith, e, g)), eq-eqb (byte_at t end) cr e, ne_eqb (byte_at t (end + 1)) lf f) in
      let size : next - end ≡ 1 = omega arith in
      record {
        line_end = cr ∷ [];
        ends = by_cr (subst (λ m. byte_at t m ≡ lf → ⊥) (sym is) f);
        bytes = ap (part_at t end) size ∙ one_byte t end cr (sym e) (omega arith);
        forward = omega arith;
        inside = omega (arith, there t end cr (sym e) (omega arith));
        further = λ h. omega arith;
      }

  behind-none : end ≡ length t → (byte_at t end ≡ lf → ⊥) → (byte_at t end ≡ cr → ⊥) → Behind t row_line
  unfolding behind_line_end row_line
  behind-none e f g =
      let is : next ≡ end = n ∙ rw (ne_eqb (byte_at t end) lf f, ne_eqb (byte_at t end) cr g) in
      let size : next - end ≡ 0 = omega arith in
      record {
        line_end = [];
        ends = at_end e;
        bytes = ap (part_at t end) size;
        forward = omega arith;
        inside = omega arith;
        further = λ h. omega arith;
      }

  no-line-end : EndsLine t end → (byte_at t end ≡ lf → ⊥) → (byte_at t end ≡ cr → ⊥) → end ≡ length t
  unfolding stops
  no-line-end l f g =
      ⊎_elim (λ e. e) (λ e. absurd (false≢true (rw (ne_eqb (byte_at t end) lf f, ne_eqb (byte_at t end) cr g) at e))) l.here

  line-behind : EndsLine t end → Behind t row_line
  line-behind l =
      by-test (eqb (byte_at t end) lf) (λ e. behind-lf (eqb-true _ _ e))
      (λ f. by-test (eqb (byte_at t end) cr)
      (λ e. by-test (eqb (byte_at t (end + 1)) lf) (λ g. behind-cr-lf (eqb-true _ _ e) (eqb-true _ _ g)) (λ g. behind-cr (eqb-true _ _ e) (eqb-false _ _ g)))
      (λ g. behind-none (no-line-end l (eqb-false _ _ f) (eqb-false _ _ g)) (eqb-false _ _ f) (eqb-false _ _ g)))

-- ---- the rows

module _ (sep : ℕ) (t : List ℕ) where
  line_of : (at : ℕ) → at ≤ length t → Behind t (line_at sep t at) × Ends sep t at (line_at sep t at).end
  unfolding line_at row_line
  line_of at l =
      let e = row_ends sep t at l (row_at sep t at) refl in
      (line-behind t at (row_end t (row_at sep t at)) (behind_line_end t (row_end t (row_at sep t at))) refl e.line, e)

  -- a row begins behind the one before it, and in the text or at its end
  pub row_next : (at : ℕ) → at < length t → (at < (line_at sep t at).next) × ((line_at sep t at).next ≤ length t)
  row_next at l =
      let r = line_of at (omega arith) in
      let b = r.0 in
      let e = r.1 in (
        by-test (ltb (line_at sep t at).end (length t))
            (λ h. omega (arith, b.further (ltb-true _ _ h), e.forward))
            (λ h. omega (arith, b.forward, ltb-false (line_at sep t at).end (length t) h)),
        b.inside,
      )

  line-at : (at : ℕ) → (line_at sep t at).at ≡ at
  unfolding line_at
  line-at at = refl

  row-with-end : (at : ℕ) → at < length t → RowWithEnd t (line_at sep t at)
  row-with-end at l =
      let r = line_of at (omega arith) in
      let line = line_at sep t at in
      let size : line.next - at ≡ (line.end - at) + (line.next - line.end) = omega (arith, r.0.forward, r.1.forward) in
      let place : at + (line.end - at) ≡ line.end = omega (arith, r.1.forward) in
      record {
        line_end = r.0.line_end;
        ends = r.0.ends;
        bytes = at_here at line (line-at at) r.0.bytes size place;
      }
    where
      at_here : (at : ℕ) (line : Line) → line.at ≡ at → {e : List ℕ} → part_at t line.end (line.next - line.end) ≡ e
          → line.next - at ≡ (line.end - at) + (line.next - line.end)
          → at + (line.end - at) ≡ line.end → line_bytes t line ≡ part_at t line.at (line.end - line.at) ++ e
      at_here at line is {e} b size place =
          ap₂ (part_at t) is (ap (λ n. line.next - n) is ∙ size) ∙ part-add t at (line.end - at) (line.next - line.end)
          ∙ ap₂ ◌++◌ (ap (λ n. part_at t n (line.end - n)) (sym is)) (ap (λ n. part_at t n (line.next - line.end)) place ∙ b)

  row_first : (at : ℕ) → line_bytes t (line_at sep t at) ≡ part_at t at ((line_at sep t at).next - at)
  unfolding line_at
  row_first at = refl

  rows_none : (turns at : ℕ) → length t ≤ at → rows_by turns sep t at ≡ []
  unfolding rows_by
  rows_none zero at l = refl
  rows_none (suc turns) at l = rw (le-ltb at (length t) l)

  rows_more : (turns at : ℕ) → at < length t → rows_by (suc turns) sep t at ≡ line_at sep t at ∷ rows_by turns sep t (line_at sep t at).next
  unfolding rows_by
  rows_more turns at l = rw (lt-ltb at (length t) l)

  part-and-rest : (at next : ℕ) → at ≤ next → part_at t at (next - at) ++ drop next t ≡ drop at t
  part-and-rest at next l =
      let place : at + (next - at) ≡ next = omega arith in
      ap (λ r. part_at t at (next - at) ++ r) (ap (λ n. drop n t) (sym place) ∙ sym (drop-drop (next - at) at t)) ∙ take-append-drop (next - at) (drop at t)

  joined_end : (turns at : ℕ) → length t ≤ at → joined_rows t (rows_by turns sep t at) ≡ drop at t
  unfolding joined_rows
  joined_end turns at l = ap (joined_rows t) (rows_none turns at l) ∙ sym (drop_of_length-le t l)

  joined-row : (turns at : ℕ) → at < length t → joined_rows t (rows_by turns sep t (line_at sep t at).next) ≡ drop (line_at sep t at).next t
      → joined_rows t (rows_by (suc turns) sep t at) ≡ drop at t
  unfolding joined_rows
  joined-row turns at l ih =
      ap (joined_rows t) (rows_more turns at l) ∙ ap₂ ◌++◌ (row_first at) ih ∙ part-and-rest at (line_at sep t at).next (omega (arith, (row_next at l).0))

  -- the rows from a place on are the text from there on
  joined_by : (turns at : ℕ) → length t - at ≤ turns → joined_rows t (rows_by turns sep t at) ≡ drop at t
  joined_by zero at l = joined_end zero at (omega arith)
  joined_by (suc turns) at l =
      by-test (ltb at (length t))
      (λ h. joined-row turns at (ltb-true _ _ h) (joined_by turns (line_at sep t at).next (omega (arith, (row_next at (ltb-true _ _ h)).0))))
      (λ h. joined_end (suc turns) at (ltb-false _ _ h))

pub rows-joined : (sep : ℕ) (t : List ℕ) → RowsJoined sep t
rows-joined sep t = record { rows = joined_by sep t (length t) 0 (omega arith); each = row-with-end sep t }

-- ---- what a row's answer tells

answered-absent : {v w : List ℕ} → answered v ≡ absent w → ⊥
answered-absent e = let z : ◌≡◌ {A = ℕ} 0 1 = cc in omega arith

answered-refusal : {v : List ℕ} {n p : ℕ} → answered v ≡ refusal n p → ⊥
answered-refusal e = let z : ◌≡◌ {A = ℕ} 0 1 = cc in omega arith

absent-refusal : {v : List ℕ} {n p : ℕ} → absent v ≡ refusal n p → ⊥
absent-refusal e = let z : ◌≡◌ {A = ℕ} 0 1 = cc in omega arith

second-value : (t : List ℕ) (r : Row) → length_of (answered (row_values t r)) ≡ behind_line_end t (row_end t r)
unfolding length_of row_values
second-value t r = refl

-- A row begins at a place, and what is told of it.
pub record RowTold (t : List ℕ) (at sep : ℕ) (told : List ℕ) : Type 0 where
  pub separator : no_separator sep ≡ false
  pub inside : at < length t
  pub values : answered told ≡ answered (row_values t (row_at sep t at))

module _ (t : List ℕ) (at sep : ℕ) where
  pub row-told : {values : List ℕ} → answered values ≡ row_outcome t at sep → RowTold t at sep values
  row-told e =
      by-test (no_separator sep) (λ h. absurd (answered-refusal (e ∙ sym (no-separator-told sep true (sym h) t at _ refl))))
      (λ h. by-test (ltb at (length t))
      (λ l. record { separator = h; inside = ltb-true _ _ l; values = e ∙ sym (row_told sep false (sym h) t at _ refl (ltb-true _ _ l) refl) })
      (λ l. absurd (answered-absent (e ∙ sym (no-row-told sep false (sym h) t at _ refl (ltb-false _ _ l))))))

  -- where the next row begins
  pub next_told : {end next : ℕ} {rest : List ℕ} → answered (end ∷ next ∷ rest) ≡ row_outcome t at sep → next ≡ (line_at sep t at).next
  unfolding line_at length_of
  next_told e = ap length_of (row-told e).values ∙ second-value t (row_at sep t at)

  -- where no row begins
  pub none-told : absent [] ≡ row_outcome t at sep → (no_separator sep ≡ true) ⊎ (length t ≤ at)
  none-told e =
      by-test (no_separator sep) inl
      (λ h. by-test (ltb at (length t))
      (λ l. absurd (answered-absent (row_told sep false (sym h) t at _ refl (ltb-true _ _ l) refl ∙ sym e)))
      (λ l. inr (ltb-false _ _ l)))

  pub refusal-told : {number place : ℕ} → refusal number place ≡ row_outcome t at sep → (no_separator sep ≡ true) ⊎ (length t ≤ at)
  refusal-told e =
      by-test (no_separator sep) inl
      (λ h. by-test (ltb at (length t))
      (λ l. absurd (answered-refusal (row_told sep false (sym h) t at _ refl (ltb-true _ _ l) refl ∙ sym e)))
      (λ l. absurd (absent-refusal (no-row-told sep false (sym h) t at _ refl (ltb-false _ _ l) ∙ sym e))))

-- ---- copying row after row

-- The rows before a place are copied and counted.
pub record Copying (sep : ℕ) (t out₀ : List ℕ) (count at : ℕ) (out : List ℕ) : Type 0 where
  pub turns : ℕ
  pub enough : length t - at ≤ turns
  pub inside : at ≤ length t
  pub few : count ≤ at
  pub none : no_separator sep ≡ true → at ≡ 0
  pub rows : count + length (rows_by turns sep t at) ≡ length (rows_of sep t)
  pub copied : out ≡ overlay out₀ 0 (take at t)

pub copying-none : (sep : ℕ) (t out₀ : List ℕ) → Copying sep t out₀ 0 0 out₀
copying-none sep t out₀ = record {
  turns = length t;
  enough = omega arith;
  inside = omega arith;
  few = omega arith;
  none = λ h. refl;
  rows = omega arith;
  copied = sym (overlay-none out₀ 0);
}

module _ {sep : ℕ} {t out₀ out : List ℕ} {count at : ℕ} (c : Copying sep t out₀ count at out) where
  laid : (next : ℕ) → at ≤ next → overlay out at (part_at t at (next - at)) ≡ overlay out₀ 0 (take next t)
  laid next l =
      let place : at + (next - at) ≡ next = omega arith in
      let size : 0 + length (take at t) ≡ at = omega (arith, length-take at t, c.inside) in
      ap₂ (λ o n. overlay o n (part_at t at (next - at))) c.copied (sym size) ∙ overlay-after out₀ 0 (take at t) (part_at t at (next - at))
      ∙ ap (overlay out₀ 0) (sym (take-add at (next - at) t) ∙ ap (λ n. take n t) place)

  row-counted : (turns : ℕ) → length t - at ≤ turns → no_separator sep ≡ false → at < length t
      → count + length (rows_by turns sep t at) ≡ length (rows_of sep t)
      → (next : ℕ) → next ≡ (line_at sep t at).next
      → (left : List ℕ) → left ≡ overlay out at (part_at t at (next - at)) → Copying sep t out₀ (count + 1) next left
  row-counted zero f k l e next n left g = absurd (omega arith)
  row-counted (suc turns) f k l e next n left g =
      let r = row_next sep t at l in
      record {
        turns = turns;
        enough = omega (arith, n, r.0);
        inside = omega (arith, n, r.1);
        few = omega (arith, n, r.0, c.few);
        none = λ h. absurd (false≢true (sym k ∙ h));
        rows = omega (arith, e, ap length (rows_more sep t turns at l), ap (λ m. length (rows_by turns sep t m)) n);
        copied = g ∙ laid next (omega (arith, n, r.0));
      }

  pub copying-on : no_separator sep ≡ false → at < length t → (next : ℕ) → next ≡ (line_at sep t at).next
      → (left : List ℕ) → left ≡ overlay out at (part_at t at (next - at)) → Copying sep t out₀ (count + 1) next left
  copying-on k l next n left g = row-counted c.turns c.enough k l c.rows next n left g

  pub copied_all : (no_separator sep ≡ true) ⊎ (length t ≤ at) → (count ≡ row_count sep t) × (out ≡ copied_rows sep t out₀)
  copied_all done =
      by-test (no_separator sep)
      (λ h.
      let start : at ≡ 0 = c.none h in
      (rw h (omega (arith, c.few)), rw h (c.copied ∙ ap (λ n. overlay out₀ 0 (take n t)) start ∙ overlay-none out₀ 0)))
      (λ h.
      let l : length t ≤ at = ⊎_elim (λ g. absurd (false≢true (sym h ∙ g))) (λ g. g) done in
      (rw h (omega (arith, c.rows, ap length (rows_none sep t c.turns at l))), rw h (c.copied ∙ ap (overlay out₀ 0) (take_all at t l))))
