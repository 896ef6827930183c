-- What is asked of all entries holds of the one that the plain reading finds.
use mathlib.Core.Path.{◌≡◌, sym, ap, ◌∙◌}
use mathlib.Core.Bool.{Bool, true, and-eq-true_iff}
use mathlib.Core.List.{List, [], ◌∷◌}
use Prim.Native.Nat.{ℕ}
use native.Mathlib.Omega.{arith}
use Rattle.parts.specs.Part.{same_bytes}
use Rattle.parts.proofs.Laws.{by-test}
use Rattle.encoding_page.specs.Entries.{all}
use Rattle.encoding_agreement.specs.Plain.{found, first_with}

pub all_found : (test : ℕ → Bool) (key : ℕ → List ℕ) (sought a : List ℕ) → all test a ≡ true
    → (at : ℕ) → first_with key sought a ≡ found at → test at ≡ true
unfolding all first_with
all_found test key sought [] e at f = absurd (let z : ◌≡◌ {A = ℕ} 0 1 = cc in omega arith)
all_found test key sought (x ∷ a) e at f =
    let p = (and-eq-true_iff (test x) (all test a)).0 e in
    by-test (same_bytes (key x) sought)
    (λ t. let here : found x ≡ found at = rw t at f in
    let same : x ≡ at = cc in
    ap test (sym same) ∙ p.0)
    (λ t. all_found test key sought a p.1 at (rw t at f))
