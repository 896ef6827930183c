-- A message that is cut into parts: one more part, and the rest.
use mathlib.Core.Path.{◌≡◌, sym, ap, subst, ◌∙◌}
use mathlib.Core.Bool.{Bool, true, false, cond}
use mathlib.Core.List.{List, ◌++◌}
use Prim.Native.Nat.{ℕ, ◌+◌}
use native.Mathlib.Omega.{arith}
use lib.ListN.{length, take, drop, length-take, length-drop, take-append-drop}
use lib.Seq.{take-add, take-append_seam, take_all}
use Rattle.parts.specs.Part.{part_at}
use Rattle.md5_digest.specs.declared.Md5.{Md5}
use Rattle.md5_digest.specs.Message.{fresh, state_after, updated, absorbed, is_too_long, finished, md5}
use Rattle.md5_digest.proofs.Cutting.{state-more, state-end, fresh-is}
use Rattle.md5_calls.specs.Sofar.{Sofar}

-- a state of the first k bytes, or of all where there are fewer
prefix : (m : List ℕ) (k : ℕ) (r : Md5) → r ≡ state_after (take k m) → Sofar m r
unfolding state_after
prefix m k r e =
    let count : r.count ≡ length (take k m) = ap (λ s. s.count) e in
    let same : take (length (take k m)) m ≡ take k m =
    ap (take (length (take k m))) (sym (take-append-drop k m)) ∙ take-append_seam (take k m) (drop k m) in
    record {
      inside = omega (arith, count, length-take k m);
      state = e ∙ ap state_after (sym same ∙ ap (λ i. take i m) (sym count));
    }

pub begun : (m : List ℕ) → Sofar m fresh
begun m = prefix m 0 fresh fresh-is

-- one more part of the message, at most n bytes
module _ (m part : List ℕ) (n : ℕ) (s r : Md5) (k : Sofar m s) (e : part ≡ part_at m s.count n) (u : r ≡ updated s part) where
  joined : absorbed s part ≡ state_after (take (s.count + n) m)
  joined =
      ap (λ t. absorbed t part) k.state ∙ state-more (take s.count m) part
      ∙ ap state_after (ap (λ p. take s.count m ++ p) e ∙ sym (take-add s.count n m))

  pub more : Sofar m r
  more = go (is_too_long (s.count + length part)) u
    where
      go : (b : Bool) → r ≡ cond b s (absorbed s part) → Sofar m r
      go true f = subst (Sofar m) (sym f) k
      go false f = prefix m (s.count + n) r (f ∙ joined)

-- all that is left of it
module _ (m part : List ℕ) (s r : Md5) (k : Sofar m s) (e : part ≡ part_at m s.count (length m)) (u : r ≡ updated s part) where
  pub whole : s.count + length part ≡ length m
  whole = omega (arith, k.inside, ap length e, length-take (length m) (drop s.count m), length-drop s.count m)

  pub digest : is_too_long (length m) ≡ false → finished r ≡ md5 m
  digest fits =
      ap finished (u ∙ ap (λ b. cond b s (absorbed s part)) (ap is_too_long whole ∙ fits) ∙ joined m part (length m) s r k e u)
      ∙ ap (λ t. finished (state_after t)) (take_all (s.count + length m) m (omega arith)) ∙ state-end m
