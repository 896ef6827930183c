-- Quoted content: rule D11.
use mathlib.Core.Path.{◌≡◌, refl, sym, ap, ap₂, ◌∙◌}
use mathlib.Core.Bool.{Bool, true, false, ◌&&◌, false≢true}
use mathlib.Core.List.{List, [], ◌∷◌, ◌++◌}
use Prim.Native.Nat.{ℕ, suc, ◌-◌, ◌≤◌}
use native.Mathlib.Omega.{arith}
use borrow.Author.Tests.{eqb-true}
use lib.Dec.{eqb}
use lib.ListN.{length, take, length-append}
use lib.Seq.{take-append_seam}
use Rattle.parts.proofs.Laws.{by-test, both}
use Rattle.worklist_unquoted.specs.Unquoted as spec
use Rattle.worklist_unquoted.specs.Unquoted.{quote, closes, is_whole, between, undoubled, content_of, in_front, doubled, quoted_text}

-- ---- the content back

-- behind a byte
closes-behind : (b : ℕ) (s : List ℕ) (test : Bool) → eqb b quote ≡ test → closes false (b ∷ s) ≡ closes test s
unfolding closes
closes-behind b s test e = ap (λ t. closes t s) e

closes-pair : (b : ℕ) (s : List ℕ) → eqb b quote ≡ true → closes false (b ∷ b ∷ s) ≡ closes false s
unfolding closes
closes-pair b s e = closes-behind b (b ∷ s) true e ∙ ap (λ t. t && closes false s) e

closes-doubled : (content : List ℕ) → closes false (doubled content ++ (quote ∷ [])) ≡ true
unfolding closes doubled in_front
closes-doubled [] = refl
closes-doubled (b ∷ s) =
    by-test (eqb b quote) (λ e. simp e (closes-pair b (doubled s ++ (quote ∷ [])) e ∙ closes-doubled s))
    (λ e. simp e (closes-behind b (doubled s ++ (quote ∷ [])) false e ∙ closes-doubled s))

undoubled-doubled : (content : List ℕ) → undoubled false (doubled content) ≡ content
unfolding undoubled doubled in_front
undoubled-doubled [] = refl
undoubled-doubled (b ∷ s) =
    by-test (eqb b quote) (λ e. simp e (ap (λ r. b ∷ r) (undoubled-doubled s))) (λ e. simp e (ap (λ r. b ∷ r) (undoubled-doubled s)))

between-quoted : (content : List ℕ) → between (quoted_text content) ≡ doubled content
between-quoted content =
    let d = doubled content in
    let size : suc (length (d ++ (quote ∷ []))) - 2 ≡ length d = omega (arith, length-append d (quote ∷ [])) in
    ap (λ n. take n (d ++ (quote ∷ []))) size ∙ take-append_seam d (quote ∷ [])

pub whole : (content : List ℕ) → is_whole (quoted_text content) ≡ true
whole content = closes-doubled content

pub back : (content : List ℕ) → content_of (quoted_text content) ≡ content
unfolding content_of
back content = rw (closes-doubled content) (ap (undoubled false) (between-quoted content) ∙ undoubled-doubled content)

-- ---- the field, quoted again

-- all but the last byte
front : List ℕ → List ℕ
front s = take (length s - 1) s

closes-some : (s : List ℕ) → closes false s ≡ true → 1 ≤ length s
unfolding closes
closes-some [] h = absurd (false≢true h)
closes-some (b ∷ s) h = omega arith

front-more : (b : ℕ) (s : List ℕ) → 1 ≤ length s → front (b ∷ s) ≡ b ∷ front s
unfolding front
front-more b s h =
    let n : suc (length s) - 1 ≡ suc (length s - 1) = omega arith in
    rw n

-- a byte that is no quote, and a pair of quotes, in front of what is quoted
other-in-front : (b : ℕ) (s : List ℕ) → eqb b quote ≡ false → doubled (undoubled false (b ∷ s)) ≡ b ∷ doubled (undoubled false s)
unfolding undoubled doubled in_front
other-in-front b s e = simp e

pair-in-front : (b d : ℕ) (s : List ℕ) → eqb b quote ≡ true → d ≡ b → doubled (undoubled false (b ∷ d ∷ s)) ≡ b ∷ d ∷ doubled (undoubled false s)
unfolding undoubled doubled in_front
pair-in-front b d s e same = rw same (simp e)

last-quote : (b : ℕ) → b ≡ quote → b ∷ [] ≡ doubled (undoubled false (front (b ∷ []))) ++ (quote ∷ [])
unfolding front undoubled doubled
last-quote b e = ap (λ x. x ∷ []) e

closed-text : (s : List ℕ) → closes false s ≡ true → s ≡ doubled (undoubled false (front s)) ++ (quote ∷ [])
unfolding closes
closed-text [] h = absurd (false≢true h)
closed-text (b ∷ []) h =
    by-test (eqb b quote) (λ e. last-quote b (eqb-true b quote e)) (λ e. absurd (false≢true (sym (closes-behind b [] false e) ∙ h)))
closed-text (b ∷ d ∷ s) h =
    by-test (eqb b quote)
    (λ e.
    let p = both (eqb d quote) (closes false s) (sym (closes-behind b (d ∷ s) true e) ∙ h) in
    let same : d ≡ b = eqb-true d quote p.0 ∙ sym (eqb-true b quote e) in
    let some = closes-some s p.1 in
    let f : front (b ∷ d ∷ s) ≡ b ∷ d ∷ front s = front-more b (d ∷ s) (omega arith) ∙ ap (λ r. b ∷ r) (front-more d s some) in
    ap (λ r. b ∷ d ∷ r) (closed-text s p.1)
    ∙ sym (ap (λ r. r ++ (quote ∷ [])) (ap (λ r. doubled (undoubled false r)) f ∙ pair-in-front b d (front s) e same)))
    (λ e.
    let f : front (b ∷ d ∷ s) ≡ b ∷ front (d ∷ s) = front-more b (d ∷ s) (omega arith) in
    ap (λ r. b ∷ r) (closed-text (d ∷ s) (sym (closes-behind b (d ∷ s) false e) ∙ h))
    ∙ sym (ap (λ r. r ++ (quote ∷ [])) (ap (λ r. doubled (undoubled false r)) f ∙ other-in-front b (front (d ∷ s)) e)))

pub text : (field : List ℕ) → is_whole field ≡ true → field ≡ quoted_text (content_of field)
unfolding content_of front
text [] h = absurd (false≢true h)
text (b ∷ s) h =
    let p = both (eqb b quote) (closes false s) h in
    let n : suc (length s) - 2 ≡ length s - 1 = omega arith in
    rw h (ap₂ ◌∷◌ (eqb-true b quote p.0) (closed-text s p.1 ∙ ap (λ m. doubled (undoubled false (take m s)) ++ (quote ∷ [])) (sym n)))

pub quoting : spec.Quoting
quoting = record { whole = whole; back = back; text = text }
