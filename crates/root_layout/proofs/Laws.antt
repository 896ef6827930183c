-- Laws of the header and of what opening answers.
use mathlib.Core.Path.{◌≡◌, refl}
use mathlib.Core.Bool.{Bool, true, false, cond}
use Prim.Native.Nat.{ℕ}
use native.Mathlib.Omega.{arith}
use Rattle.refusal.specs.Check.{Check, silent, refused}
use Rattle.refusal.specs.Outcome.{answered, after}
use Rattle.std.specs.Prelude.{Result, Ok, Err}
use Rattle.refusal.specs.declared.Refusal.{Refusal}
use Rattle.refusal.specs.Number.{number_of}
use Rattle.refusal.proofs.Laws.{told-answer, told-refusal}
use Rattle.root_layout.specs.declared.Layout.{Layout}
use Rattle.root_layout.specs.Header.{layout_values, outcome}

-- ---- what an answer of opening says

-- a bool as it is told
tell : Bool → ℕ
tell b = cond b 1 0

told : (a b : Bool) → tell a ≡ tell b → a ≡ b
unfolding tell
told true true e = refl
told true false e = absurd (omega arith)
told false true e = absurd (omega arith)
told false false e = refl

pub passed-layout : (k : Check) (l m : Layout) (v : Result Layout Refusal)
    → outcome v ≡ after k (answered (layout_values m)) → v ≡ Ok l → (k ≡ silent) × (l ≡ m)
unfolding layout_values tell
passed-layout k l m v e g =
    let a = told-answer layout_values k (layout_values m) v e g in
    let h = a.1 in
    let p : l.start ≡ m.start = cc in
    let q : tell l.locale_first ≡ tell m.locale_first = cc in
    let w : tell l.wide_content ≡ tell m.wide_content = cc in
    let u : l.unknown ≡ m.unknown = cc in
    let t : tell l.interleaved ≡ tell m.interleaved = cc in
    let n : l.no_hashes ≡ m.no_hashes = cc in (
      a.0,
      λ i. record {
        start = p i;
        locale_first = told l.locale_first m.locale_first q i;
        wide_content = told l.wide_content m.wide_content w i;
        unknown = u i;
        interleaved = told l.interleaved m.interleaved t i;
        no_hashes = n i;
      },
    )

pub refused-layout : (k : Check) (m : Layout) (v : Result Layout Refusal) {r : Refusal}
    → outcome v ≡ after k (answered (layout_values m)) → v ≡ Err r → k ≡ refused (number_of r.reason) r.place
refused-layout k m v e g = told-refusal layout_values k (layout_values m) v e g
