-- Laws of quotes, byte by byte.
use mathlib.Core.Path.{◌≡◌, refl, sym, ap, ◌∙◌}
use mathlib.Core.Bool.{Bool, true, false, cond}
use mathlib.Core.List.{List, [], ◌∷◌, ◌++◌, append_assoc, append-nil}
use Prim.Native.Nat.{ℕ, ◌+◌, ◌-◌, ◌≤◌, ◌<◌}
use native.Mathlib.Nat.{zero-add}
use native.Mathlib.Numerals.{add-one}
use native.Mathlib.Omega.{arith}
use borrow.Author.Tests.{eq-eqb, ne_eqb, le-ltb}
use lib.Dec.{eqb}
use lib.ListN.{length, drop, drop_of_length-le, length-append}
use lib.Seq.{drop-cons, drop-drop}
use Rattle.parts.specs.Part.{byte_at, part_at, overlay}
use Rattle.parts.proofs.Laws.{by-test, overlay-none, overlay-after, overlay-length, overlay-inside}
use Rattle.refusal.specs.Check.{refused_if}
use Rattle.refusal.specs.Output.{filled}
use Rattle.worklist_unquoted.specs.Unquoted.{quote, closes, is_whole, undoubled, step_of, content_of, unquoted_output}

pub behind : (s : List ℕ) (at : ℕ) → at < length s → drop at s ≡ byte_at s at ∷ drop (at + 1) s
behind s at l = rw add-one (drop-cons s at 0 l)

-- ---- the closing quote

-- The scan has come to a place: what is left decides.
pub record Scanned (field : List ℕ) (closed : Bool) (at : ℕ) : Type 0 where
  pub rest : is_whole field ≡ closes closed (drop at field)

pub scan-none : (field : List ℕ) → byte_at field 0 ≡ quote → Scanned field false 1
scan-none field e = record { rest = rw (eq-eqb (byte_at field 0) quote e) }

pub not-quoted : (field : List ℕ) → (byte_at field 0 ≡ quote → ⊥) → false ≡ is_whole field
not-quoted field e = rw (ne_eqb (byte_at field 0) quote e)

module _ {field : List ℕ} {closed : Bool} {at : ℕ} (s : Scanned field closed at) where
  pub scan-all : length field ≤ at → closed ≡ is_whole field
  unfolding closes
  scan-all h = sym (s.rest ∙ ap (closes closed) (drop_of_length-le field h) ∙ closes-end closed)
    where
      closes-end : (c : Bool) → closes c [] ≡ c
      closes-end true = refl
      closes-end false = refl

  module _ (l : at < length field) where
    scan_step : is_whole field ≡ closes closed (byte_at field at ∷ drop (at + 1) field)
    scan_step = s.rest ∙ ap (closes closed) (behind field at l)

    pub scan-broken : closed ≡ true → (byte_at field at ≡ quote → ⊥) → false ≡ is_whole field
    unfolding closes
    scan-broken c e = sym (scan_step ∙ rw (c, ne_eqb (byte_at field at) quote e))

    pub scan-pair : closed ≡ true → byte_at field at ≡ quote → Scanned field false (at + 1)
    unfolding closes
    scan-pair c e = record { rest = scan_step ∙ rw (c, eq-eqb (byte_at field at) quote e) }

    pub scan-next : closed ≡ false → Scanned field (eqb (byte_at field at) quote) (at + 1)
    unfolding closes
    scan-next c = record { rest = scan_step ∙ rw c }

-- ---- doubled quotes

skipped : (s : List ℕ) → undoubled true s ≡ undoubled false (drop 1 s)
unfolding undoubled
skipped [] = refl
skipped (b ∷ s) = refl

step-to : (test : Bool) (s : List ℕ) (at : ℕ) → undoubled test (drop (at + 1) s) ≡ undoubled false (drop (at + cond test 2 1) s)
step-to true s at =
    let two : at + 1 + 1 ≡ at + 2 = omega arith in
    skipped (drop (at + 1) s) ∙ ap (undoubled false) (drop-drop 1 (at + 1) s ∙ ap (λ n. drop n s) two)
step-to false s at = refl

undoubled-step : (s : List ℕ) (at : ℕ) → at < length s
    → undoubled false (drop at s) ≡ byte_at s at ∷ undoubled false (drop (at + step_of (byte_at s at)) s)
unfolding undoubled
undoubled-step s at l = rw (behind s at l) (ap (λ r. byte_at s at ∷ r) (step-to (eqb (byte_at s at) quote) s at))

pub step_range : (b n : ℕ) → n ≡ step_of b → (1 ≤ n) × (n ≤ 2)
step_range b n h =
    by-test (eqb b quote) (λ e. let two : n ≡ 2 = rw e at h in (omega arith, omega arith))
    (λ e. let one : n ≡ 1 = rw e at h in (omega arith, omega arith))

-- The bytes before a place stand in the output, each doubled quote as one.
pub record Put (bytes before output : List ℕ) (to at : ℕ) : Type 0 where
  pub done : List ℕ
  pub whole : undoubled false bytes ≡ done ++ undoubled false (drop at bytes)
  pub end : to ≡ length done
  pub few : to ≤ at
  pub laid : output ≡ overlay before 0 done

pub put-none : (bytes output : List ℕ) → Put bytes output output 0 0
put-none bytes output = record { done = []; whole = refl; end = refl; few = omega arith; laid = sym (overlay-none output 0) }

module _ {bytes before output : List ℕ} {to at : ℕ} (p : Put bytes before output to at) where
  pub put-length : length output ≡ length before
  put-length = ap length p.laid ∙ overlay-length before 0 p.done

  pub put_next : (after : List ℕ) (step : ℕ) → at < length bytes → after ≡ overlay output to (byte_at bytes at ∷ []) → step ≡ step_of (byte_at bytes at)
      → Put bytes before after (to + 1) (at + step)
  put_next after step l e h =
      let b = byte_at bytes at in
      let from : 0 + length p.done ≡ to = omega (arith, p.end) in
      record {
        done = p.done ++ (b ∷ []);
        whole = p.whole
            ∙ ap (λ r. p.done ++ r) (undoubled-step bytes at l ∙ ap (λ n. b ∷ undoubled false (drop (at + n) bytes)) (sym h))
            ∙ sym (append_assoc p.done (b ∷ []) (undoubled false (drop (at + step) bytes)));
        end = omega (arith, p.end, length-append p.done (b ∷ []));
        few = omega (arith, p.few, step_range b step h);
        laid = e
            ∙ ap (λ o. overlay o to (b ∷ [])) p.laid
            ∙ ap (λ n. overlay (overlay before 0 p.done) n (b ∷ [])) (sym from)
            ∙ overlay-after before 0 p.done (b ∷ []);
      }

  pub put_all : length bytes ≤ at → (to ≡ length (undoubled false bytes)) × (output ≡ overlay before 0 (undoubled false bytes))
  unfolding undoubled
  put_all h =
      let all : undoubled false bytes ≡ p.done = p.whole ∙ ap (λ r. p.done ++ undoubled false r) (drop_of_length-le bytes h) ∙ append-nil p.done in
      (p.end ∙ ap length (sym all), p.laid ∙ ap (overlay before 0) (sym all))

-- ---- the content

pub whole-content : (field part : List ℕ) (n : ℕ) → is_whole field ≡ true → part ≡ part_at field 1 n → n ≡ length field - 2
    → undoubled false part ≡ content_of field
unfolding content_of
whole-content field part n w p h = rw (w, p, h)

pub plain-content : (field : List ℕ) → is_whole field ≡ false → field ≡ content_of field
unfolding content_of
plain-content field w = rw w

-- the output, where the content fits
pub content_written : (field out after : List ℕ) → length (content_of field) ≤ length out → after ≡ overlay out 0 (content_of field)
    → after ≡ unquoted_output field out
unfolding filled refused_if
content_written field out after h o =
    let n : 0 + length (content_of field) ≡ length (content_of field) = zero-add (length (content_of field)) in
    rw (le-ltb (length out) (length (content_of field)) h)
    (o ∙ overlay-inside out 0 (content_of field) (omega arith) ∙ ap (λ m. content_of field ++ drop m out) n)
