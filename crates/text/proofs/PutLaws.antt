-- Laws of text that is put into output.
use mathlib.Core.Path.{◌≡◌, refl, sym, ap, ap₂, subst, ◌∙◌}
use mathlib.Core.List.{List, [], ◌∷◌, ◌++◌, append-nil}
use Prim.Native.Nat.{ℕ, zero, suc, ◌+◌, ◌^◌, ◌≤◌, ◌<◌, min}
use native.Mathlib.Nat.{zero-min, suc-min-suc, not-suc-le-zero, le_of_suc-le-suc, le_of_eq, zero-add}
use native.Mathlib.Omega.{arith}
use lib.ListN.{length, drop, length-append}
use lib.Seq.{drop-length}
use Rattle.parts.specs.Part.{overlay, parts_from}
use Rattle.parts.proofs.Laws.{overlay-length, overlay-inside, overlay-none, overlay-after}
use Rattle.parts.proofs.Parts.{parts_next}
use Rattle.text.specs.Place.{place_after}

-- what a function ensures that puts a text: the place after it, and every byte of the output
pub record Put (output : List ℕ) (at : ℕ) (text after : List ℕ) (to : ℕ) : Type 0 where
  pub end : to ≡ place_after at (length text)
  pub bytes : after ≡ overlay output at text

pub told : (output : List ℕ) (at : ℕ) (text after : List ℕ) (to : ℕ) → (to ≡ place_after at (length text)) × (after ≡ overlay output at text)
    → Put output at text after to
told output at text after to e = record { end = e.0; bytes = e.1 }

pub both : {output text after : List ℕ} {at to : ℕ} → Put output at text after to → (to ≡ place_after at (length text)) × (after ≡ overlay output at text)
both p = (p.end, p.bytes)

-- a place past the end of the output is as good as another
overlay-clipped : (out : List ℕ) (at most : ℕ) (from : List ℕ) → length out ≤ most → overlay out (min at most) from ≡ overlay out at from
unfolding overlay
overlay-clipped [] at most from h = refl
overlay-clipped (x ∷ out) zero most from h = rw (zero-min most)
overlay-clipped (x ∷ out) (suc at) zero from h = absurd (not-suc-le-zero h)
overlay-clipped (x ∷ out) (suc at) (suc most) from h =
    rw (suc-min-suc at most) (ap (λ (r : List ℕ). x ∷ r) (overlay-clipped out at most from (le_of_suc-le-suc h)))

-- the same text, told otherwise
pub put_same : {out after : List ℕ} {at to : ℕ} {a b : List ℕ} → Put out at a after to → a ≡ b → Put out at b after to
put_same {out} {after} {at} {to} p e = subst (λ (t : List ℕ). Put out at t after to) e p

pub put-length : {out after : List ℕ} {at to : ℕ} {a : List ℕ} → Put out at a after to → length after ≡ length out
put-length {out} {after} {at} {to} {a} p = ap length p.bytes ∙ overlay-length out at a

pub put-none : (out : List ℕ) (at : ℕ) → at < 2 ^ 64 → Put out at [] out at
put-none out at h = record { end = omega arith; bytes = sym (overlay-none out at) }

-- one text after another
pub put_next : {out then after : List ℕ} {at to end : ℕ} {a b : List ℕ} → length out < 2 ^ 64 → Put out at a then to → Put then to b after end
    → Put out at (a ++ b) after end
put_next {out} {then} {after} {at} {to} {end} {a} {b} h p q =
    record {
      end = omega (arith, q.end, p.end, length-append a b);
      bytes = q.bytes
          ∙ ap₂ (λ o n. overlay o n b) p.bytes p.end
          ∙ overlay-clipped (overlay out at a) (at + length a) _ b (omega (arith, overlay-length out at a))
          ∙ overlay-after out at a b;
    }

-- one numbered part more
pub put-part : (f : ℕ → List ℕ) (i : ℕ) {out then after : List ℕ} {at to end : ℕ} → length out < 2 ^ 64 → Put out at (parts_from f 0 i) then to
    → Put then to (f i) after end → Put out at (parts_from f 0 (i + 1)) after end
put-part f i h p q = rw (parts_next f i) (put_next h p q)

-- a text that has room for all of it
pub put_whole : (out text after : List ℕ) (to : ℕ) → Put out 0 text after to → length text ≤ length out → after ≡ text ++ drop (length text) out
put_whole out text after to p h =
    let n : 0 + length text ≡ length text = zero-add (length text) in
    p.bytes ∙ overlay-inside out 0 text (omega arith) ∙ ap (λ k. text ++ drop k out) n

-- and takes all of it
pub put-filled : (out text after : List ℕ) (to : ℕ) → Put out 0 text after to → length text ≡ length out → after ≡ text
put-filled out text after to p e = put_whole out text after to p (le_of_eq e) ∙ rw (e, drop-length out) (append-nil text)
