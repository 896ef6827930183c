-- Laws of the chain.
use mathlib.Core.Path.{◌≡◌, refl, ap, ◌∙◌}
use mathlib.Core.List.{List, [], ◌∷◌}
use Prim.Native.Nat.{ℕ}
use native.Mathlib.Omega.{arith}
use lib.ListN.{take}
use Rattle.parts.specs.Part.{part_at}
use Rattle.refusal.specs.Check.{Check, silent, refused}
use Rattle.refusal.specs.Outcome.{Outcome, answered, after}
use Rattle.refusal.proofs.Laws.{first-left}
use Rattle.encoding_header.specs.declared.Kind.TheVariants.{Content}
use Rattle.encoding_header.specs.Header.{header_of, opening}
use Rattle.encoding_lookup.specs.Lookup.{lookup_check, length_check, content_lookup, part_after}
use Rattle.encoding_lookup.proofs.Laws.{run-told}
use Rattle.chain.specs.Chain.{first_of, encoding_key}

-- an answer is told after a silent check alone
answered-silent : (k : Check) (o : Outcome) (values : List ℕ) → answered values ≡ after k o → k ≡ silent
unfolding after
answered-silent silent o values e = refl
answered-silent (refused number place) o values e = absurd (let z : ◌≡◌ {A = ℕ} 0 1 = cc in omega arith)

-- the first key at the place that a found content key has is the one that is followed
pub first-told : (s key : List ℕ) (size keys at n : ℕ) → answered (size ∷ keys ∷ at ∷ n ∷ []) ≡ content_lookup s key → first_of s at n ≡ encoding_key s key
unfolding first_of encoding_key part_after
first-told s key size keys at n e =
    let open_is : opening s ≡ silent = first-left (opening s) (length_check (header_of s) Content key) (answered-silent (lookup_check s Content key) _ _ e) in
    ap (λ k. part_after k (take (header_of s).encoding.key_size (part_at s at n))) open_is
    ∙ ap (take (header_of s).encoding.key_size) (run-told s key size keys at n e)
