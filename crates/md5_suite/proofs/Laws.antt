-- Laws of one turn of each loop: one more byte of the data, one more part.
use mathlib.Core.Path.{◌≡◌, sym, ap, ap₂, subst, ◌∙◌}
use mathlib.Core.List.{List, [], ◌∷◌, ◌++◌}
use Prim.Native.Nat.{ℕ, ◌+◌, ◌-◌, ◌^◌, ◌≤◌, ◌<◌}
use native.Mathlib.Numerals.{add-one}
use native.Mathlib.Omega.{arith}
use lib.ListN.{length, take, drop, set, replicate, length-drop, length-replicate}
use lib.Seq.{take-suc-set, take-add, length-take-le}
use Rattle.refusal.specs.Check.{check_of, silent, refused_if}
use Rattle.md5_digest.specs.declared.Md5.{Md5}
use Rattle.md5_digest.specs.Message.{state_after}
use Rattle.md5_digest.specs.Cutting.{Answer, Updates}
use Rattle.md5_digest.proofs.Cutting.{below}
use Rattle.md5_suite.specs.Suite.{data_byte, data_of}

pub zeros-length : (n : ℕ) → n ≡ length (replicate {A = ℕ} n 0)
zeros-length n = sym (length-replicate n 0)

pub data-more : (to : List ℕ) (i v : ℕ) → i < length to → take i to ≡ data_of i → v ≡ data_byte i → take (i + 1) (set to i v) ≡ data_of (i + 1)
unfolding data_of
data-more to i v h e f = rw add-one (take-suc-set to i v h ∙ ap₂ (λ (l : List ℕ) b. l ++ (b ∷ [])) e f)

-- one more part
module _ (s : List ℕ) (v t : Md5) (r : Answer) (at end : ℕ) (h : at ≤ end) (k : end ≤ length s) (m : length s ≤ 2 ^ 48)
    (e : v ≡ state_after (take at s)) (u : Updates v (take (end - at) (drop at s)) r t) where
  part : (check_of r ≡ silent) × (t ≡ state_after (take at s ++ take (end - at) (drop at s)))
  unfolding refused_if
  part =
      let before : at ≤ length s = omega arith in
      let left : end - at ≤ length (drop at s) = rw length-drop (omega arith) in
      let fits : length (take at s) + length (take (end - at) (drop at s)) ≤ 2 ^ 48 =
      rw (length-take-le at s before, length-take-le (end - at) (drop at s) left) (omega arith) in
      below (take at s) (take (end - at) (drop at s)) r t (subst (λ x. Updates x (take (end - at) (drop at s)) r t) e u) fits

  pub part-more : t ≡ state_after (take end s)
  part-more =
      let both : at + (end - at) ≡ end = omega arith in
      part.1 ∙ ap state_after (sym (take-add at (end - at) s) ∙ ap (λ k. take k s) both)
