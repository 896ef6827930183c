-- Laws of key text.
use mathlib.Core.Path.{◌≡◌, refl, sym, ap, ◌∙◌}
use mathlib.Core.Bool.{false, not}
use mathlib.Core.List.{List, [], ◌∷◌}
use Prim.Native.Nat.{ℕ, zero, suc, ◌+◌, ◌-◌, ◌*◌, ◌/◌, ◌≤◌, ◌<◌}
use native.Mathlib.Nat.{zero-add, not-suc-le-zero}
use native.Mathlib.Numerals.{add-one}
use native.Mathlib.Omega.{arith}
use lib.ListN.{length, drop, set, replicate}
use lib.Seq.{paste, paste-suc, take-length, take-append_seam}
use borrow.Author.Tests.{eqb-true, not-false, ne_eqb}
use Rattle.numbers.specs.Number.{within}
use Rattle.index_layout.specs.Layout.{least_key_length, most_key_length}
use Rattle.parts.specs.Part.{byte_at, part_at}
use Rattle.refusal.specs.Check.{silent, refused, first_from}
use Rattle.refusal.specs.Number.{settings, key_text_length}
use Rattle.refusal.specs.Output.{filled}
use Rattle.refusal.proofs.Laws.{said, quiet, silent-test, first-left, first-right, first_said, skip, upto-said, upto-quiet, upto-end}
use Rattle.key_text.specs.Text.{digit_of, key_length_check, digit_check, digits_check, text_check, text_bytes, carried}

-- ---- the digits, one after the other

-- The characters before an offset are digits.
abbrev pub Digits : List ℕ → ℕ → Type 0
Digits text at = digits_check text ≡ first_from (digit_check text) at (length text - at)

module _ (text : List ℕ) (at : ℕ) (d : Digits text at) where
  pub digit-wrong : {number place : ℕ} → at < length text → refused number place ≡ digit_check text at → refused number place ≡ digits_check text
  digit-wrong l e = sym (d ∙ upto-said (digit_check text) at (length text) l (sym e))

  pub digit-right : at < length text → silent ≡ digit_check text at → Digits text (at + 1)
  digit-right l e = d ∙ upto-quiet (digit_check text) at (length text) l (sym e)

  pub digits-all : length text ≤ at → silent ≡ digits_check text
  digits-all l = sym (d ∙ upto-end (digit_check text) at (length text) l)

-- both digits of a byte
pub pair-right : (text : List ℕ) (at : ℕ) → Digits text (2 * at) → 2 * at + 1 < length text → silent ≡ digit_check text (2 * at)
    → silent ≡ digit_check text (2 * at + 1) → Digits text (2 * (at + 1))
pair-right text at d l e f =
    let next : 2 * (at + 1) ≡ 2 * at + 1 + 1 = omega arith in
    rw next (digit-right text (2 * at + 1) (digit-right text (2 * at) d (omega arith) e) l f)

-- ---- 11, 60, 61

module _ (text : List ℕ) (k : ℕ) where
  module _ (range : not (within k least_key_length most_key_length) ≡ false) where
    key-length-right : key_length_check k ≡ silent
    key-length-right = quiet settings 0 refl range

    pub text-length-wrong : (length text ≡ 2 * k → ⊥) → text_check text k ≡ refused key_text_length 0
    text-length-wrong h = skip key-length-right (first_said _ (said refl (rw (ne_eqb (length text) (2 * k) h))))

  -- What holds of a text that is not refused.
  module _ (e : text_check text k ≡ silent) where
    pub right-text-length : length text ≡ 2 * k
    right-text-length =
        eqb-true (length text) (2 * k) (not-false _ (silent-test _ key_text_length 0 (first-left _ _ (first-right _ _ e))))

-- ---- the bytes

pub text_bytes-length : (text : List ℕ) → length (text_bytes text) ≡ length text / 2
unfolding text_bytes
text_bytes-length [] = refl
text_bytes-length (x ∷ []) = refl
text_bytes-length (x ∷ y ∷ text) = omega (arith, text_bytes-length text)

pub text_bytes-byte : (text : List ℕ) (i : ℕ) → 2 * i + 1 < length text
    → byte_at (text_bytes text) i ≡ digit_of (byte_at text (2 * i)) * 16 + digit_of (byte_at text (2 * i + 1))
unfolding text_bytes
text_bytes-byte [] i l = absurd (not-suc-le-zero l)
text_bytes-byte (x ∷ []) i l = absurd (omega arith)
text_bytes-byte (x ∷ y ∷ text) zero l = refl
text_bytes-byte (x ∷ y ∷ text) (suc i) l =
    let high : 2 * suc i ≡ suc (suc (2 * i)) = omega arith in
    let low : 2 * suc i + 1 ≡ suc (suc (2 * i + 1)) = omega arith in
    rw (low, high) (text_bytes-byte text i (omega arith))

-- The first bytes of a key over sixteen zeros: one more, and all.
abbrev pub over : List ℕ → ℕ → List ℕ
over text n = paste (replicate 16 0) 0 (text_bytes text) n

pub over-more : (text bytes : List ℕ) (at high low : ℕ) → length text ≤ 32 → at < length text / 2 → bytes ≡ over text at
    → high ≡ digit_of (byte_at text (2 * at)) → low ≡ digit_of (byte_at text (2 * at + 1))
    → set bytes at (high * 16 + low) ≡ over text (at + 1)
over-more text bytes at high low short l e h m =
    let byte = text_bytes-byte text at (omega arith) in
    let room : 0 + at < 16 = omega arith in
    let there : at < length (text_bytes text) = omega (arith, text_bytes-length text) in
    rw (e, h, m, ← byte, add-one)
    (ap (λ (i : ℕ). set (over text at) i (byte_at (text_bytes text) at)) (sym (zero-add at))
    ∙ paste-suc (replicate 16 0) 0 (text_bytes text) at 0 room there)

pub over-all : (text : List ℕ) (n : ℕ) → n ≡ length text / 2 → over text n ≡ filled silent (text_bytes text) (replicate 16 0)
unfolding filled
over-all text n e = rw (zero-add, e, ← text_bytes-length text, take-length)

-- ---- the key by value

module _ (text : List ℕ) (k : ℕ) where
  pub carried-right : text_check text k ≡ silent → filled silent (text_bytes text) (replicate 16 0) ≡ carried text k
  carried-right e = rw e

  -- The first K bytes that carry a key, laid over other bytes.
  module _ (e : text_check text k ≡ silent) where
    text_bytes-key : length (text_bytes text) ≡ k
    text_bytes-key = text_bytes-length text ∙ omega (arith, right-text-length text k e)

    pub carried-key : part_at (carried text k) 0 k ≡ text_bytes text
    unfolding filled
    carried-key =
        rw (← carried-right e, ← text_bytes-key) (take-append_seam (text_bytes text) (drop (length (text_bytes text)) (replicate 16 0)))
