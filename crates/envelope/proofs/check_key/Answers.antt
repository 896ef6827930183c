-- `envelope::check_key`: the length of the key, the limit, the hash.
use mathlib.Core.Path.{◌≡◌, refl, sym, ap, ◌∙◌}
use mathlib.Core.Bool.{not}
use mathlib.Core.List.{List}
use Prim.Native.Nat.{ℕ}
use native.Mathlib.Omega.{arith}
use lib.ListN.{length}
use borrow.Author.Tests.{eq-eqb}
use Rattle.std.proofs.lemmas.Result.{err_from_is_err_and}
use Rattle.parts.specs.Part.{same_bytes}
use Rattle.refusal.specs.Check.{Check, refused_if, first}
use Rattle.refusal.specs.Number.{envelope_key}
use Rattle.refusal.proofs.Laws.{said, quiet, first_said, skip}
use Rattle.md5_digest.specs.Message.{md5, limited}
use Rattle.envelope_header.specs.Header.{header_of}
use Rattle.envelope.specs.Envelope.{keyed, limit_check, envelope_key_check, envelope_key_of}
use Rattle.envelope.proofs.Laws.{limit-judged}
use Rattle.envelope.proofs.check_key.Goals as goal

-- what is judged after the length of the key
module _ (s key : List ℕ) (long : length key ≡ 16) where
  after-length : {r : Check} → first (limit_check s (header_of s)) (refused_if (not (same_bytes (envelope_key_of s) key)) envelope_key 0) ≡ r
      → envelope_key_check s key ≡ r
  after-length e = skip (quiet envelope_key 0 refl (rw (eq-eqb (length key) 16 long))) e

pub returns-in_err-hash : goal.returns-in_err-hash
returns-in_err-hash c =
    let s = c.args.file.now in
    let p = err_from_is_err_and c.from_residual.result c.from_residual.ensures.1 in
    let judged = limit-judged s c.args.h (omega arith) ∙ ap (limit_check s) c.requires in
    let limit = c.in_err-hash.ensures.check ∙ ap (λ m. limited (length m)) c.keyed.ensures ∙ judged in
    rw (p.1, p.2) (sym (after-length s c.args.key.now c.if-key-ne16.false (first_said _ (sym limit))))

pub returns-then-not-equal : goal.returns-then-not-equal
returns-then-not-equal c =
    let s = c.args.file.now in
    let judged = limit-judged s c.args.h (omega arith) ∙ ap (limit_check s) c.requires in
    let limit = c.in_ok-hash.ensures.check ∙ ap (λ m. limited (length m)) c.keyed.ensures ∙ judged in
    let is = c.in_ok-hash.ensures.bytes ∙ ap md5 (c.keyed.ensures ∙ ap (keyed s) c.requires) in
    let same = c.equal.ensures ∙ ap (λ b. same_bytes b c.args.key.now) is in
    let other = said refl (ap not (sym same ∙ c.if-not-equal.true)) in
    rw c.at-then-not-equal.ensures (sym (after-length s c.args.key.now c.if-key-ne16.false (skip (sym limit) other)))

pub returns : goal.returns
returns c =
    let s = c.args.file.now in
    let judged = limit-judged s c.args.h (omega arith) ∙ ap (limit_check s) c.requires in
    let limit = c.in_ok-hash.ensures.check ∙ ap (λ m. limited (length m)) c.keyed.ensures ∙ judged in
    let is = c.in_ok-hash.ensures.bytes ∙ ap md5 (c.keyed.ensures ∙ ap (keyed s) c.requires) in
    let same = c.equal.ensures ∙ ap (λ b. same_bytes b c.args.key.now) is in
    sym (after-length s c.args.key.now c.if-key-ne16.false (skip (sym limit) (quiet envelope_key 0 refl (ap not (sym same ∙ c.if-not-equal.false)))))
