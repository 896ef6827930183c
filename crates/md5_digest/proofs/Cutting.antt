-- However a message is cut into parts, the state is that of the bytes so far, and the digest that of the whole.
use mathlib.Core.Path.{◌≡◌, refl, sym, ap, subst, ◌∙◌}
use mathlib.Core.Bool.{Bool, true, false, cond}
use mathlib.Core.List.{List, [], ◌∷◌, ◌++◌, append_assoc, append-nil}
use Prim.Native.Nat.{ℕ, ◌+◌, ◌-◌, ◌*◌, ◌/◌, ◌%◌, ◌^◌, ◌≤◌, ◌<◌}
use native.Mathlib.Omega.{arith}
use borrow.Author.Tests.{lt-ltb, le-ltb, ltb-true}
use lib.Dec.{ltb}
use lib.ListN.{length, take, drop, replicate, length-append, length-replicate, replicate-append-replicate}
use lib.Seq.{take_at, drop-append-add, drop_at}
use Rattle.parts.specs.Part.{overlay}
use Rattle.parts.proofs.Laws.{overlay-inside}
use Rattle.refusal.specs.Check.{check_of, refused_if}
use Rattle.refusal.specs.Number.{hash_limit}
use Rattle.md5_block.specs.Block.{addends, blocks, whole}
use Rattle.md5_digest.specs.declared.Md5.{Md5}
use Rattle.md5_digest.specs.Message.{padding, waiting, state_after, absorbed, finished, fresh, digest_of, initial, md5, is_too_long}
use Rattle.md5_digest.specs.Cutting.{Answer, Updates, Run, done, next, AllPassed, none, more, joined, AnyCutting}
use Rattle.md5_end.specs.End.{rest, zero_filled}
use Rattle.md5_end.proofs.EndLaws.{rest-length, whole-rest, rest-append}
use Rattle.md5_digest.proofs.MessageLaws.{state-is}

-- the bytes that wait in the state of some bytes
pub state-waiting : (m : List ℕ) → waiting (state_after m) ≡ rest m
unfolding state_after
state-waiting m = take_at (rest m) (replicate (64 - length (rest m)) 0) (length m % 64) (rest-length m)

-- bytes laid over zeros after others
laid-after : (r p : List ℕ) (n : ℕ) → length r ≡ n → n + length p ≤ 64 → overlay (zero_filled r) n p ≡ zero_filled (r ++ p)
laid-after r p n h k =
    let room : n + length p ≤ length (zero_filled r) = simp (length-append, length-replicate) (omega arith) in
    let left : 64 - length r ≡ length p + (64 - length (r ++ p)) = simp length-append (omega arith) in
    overlay-inside (zero_filled r) n p room
    ∙ ap (λ x. take n (zero_filled r) ++ p ++ x)
    (ap (λ i. drop (i + length p) (zero_filled r)) (sym h) ∙ drop-append-add r (replicate (64 - length r) 0) (length p)
    ∙ ap (drop (length p)) (ap (λ i. replicate i 0) left ∙ sym (replicate-append-replicate (length p) (64 - length (r ++ p)) 0))
    ∙ drop_at (replicate (length p) 0) (replicate (64 - length (r ++ p)) 0) (length p) (length-replicate (length p) 0))
    ∙ ap (λ x. x ++ p ++ replicate (64 - length (r ++ p)) 0) (take_at r (replicate (64 - length r) 0) n h)

rest-small : (s : List ℕ) → length s < 64 → rest s ≡ s
rest-small s h =
    let zero : length s / 64 * 64 ≡ 0 = omega arith in
    ap (λ i. drop i s) zero

pending-more : (m p : List ℕ)
    → cond (ltb (length m % 64 + length p) 64) (overlay (zero_filled (rest m)) (length m % 64) p) (zero_filled (rest (rest m ++ p))) ≡ zero_filled (rest (m ++ p))
pending-more m p = go (ltb (length m % 64 + length p) 64) refl
  where
    go : (b : Bool) → ltb (length m % 64 + length p) 64 ≡ b
        → cond b (overlay (zero_filled (rest m)) (length m % 64) p) (zero_filled (rest (rest m ++ p))) ≡ zero_filled (rest (m ++ p))
    go true e =
        let below : length m % 64 + length p < 64 = ltb-true _ _ e in
        let small : length (rest m ++ p) < 64 = rw (length-append, rest-length) below in
        laid-after (rest m) p (length m % 64) (rest-length m) (omega arith) ∙ ap zero_filled (sym (rest-small (rest m ++ p) small) ∙ sym (rest-append m p))
    go false e = ap zero_filled (sym (rest-append m p))

-- one more part after some bytes
pub state-more : (m p : List ℕ) → absorbed (state_after m) p ≡ state_after (m ++ p)
unfolding state_after absorbed
state-more m p =
    let w : waiting (state_after m) ≡ rest m = state-waiting m in
    state-is (ap (λ l. whole addends (l ++ p) (whole addends m initial)) w ∙ sym (whole-rest addends m p initial))
    (ap (λ l. cond (ltb (length m % 64 + length p) 64) (overlay (zero_filled (rest m)) (length m % 64) p) (zero_filled (rest (l ++ p)))) w ∙ pending-more m p)
    (sym (length-append m p))

pub state-end : (m : List ℕ) → finished (state_after m) ≡ md5 m
unfolding state_after finished md5
state-end m =
    ap (λ l. digest_of (whole addends (l ++ padding (length m)) (whole addends m initial))) (state-waiting m)
    ∙ ap digest_of (sym (whole-rest addends m (padding (length m)) initial))

pub fresh-is : fresh ≡ state_after []
unfolding fresh state_after blocks
fresh-is = refl

-- one update of the state of some bytes, below the limit and above it
module _ (m part : List ℕ) (r : Answer) (t : Md5) (u : Updates (state_after m) part r t) where
  pub below : length m + length part ≤ 2 ^ 48 → (check_of r ≡ refused_if false hash_limit 0) × (t ≡ state_after (m ++ part))
  unfolding state_after
  below h =
      let e : is_too_long (length m + length part) ≡ false = le-ltb (2 ^ 48) (length m + length part) h in
      (u.said ∙ ap (λ b. refused_if b hash_limit 0) e, u.after ∙ ap (λ b. cond b (state_after m) (absorbed (state_after m) part)) e ∙ state-more m part)

  pub above : 2 ^ 48 < length m + length part → (check_of r ≡ refused_if true hash_limit 0) × (t ≡ state_after m)
  unfolding state_after
  above h =
      let e : is_too_long (length m + length part) ≡ true = lt-ltb (2 ^ 48) (length m + length part) h in
      (u.said ∙ ap (λ b. refused_if b hash_limit 0) e, u.after ∙ ap (λ b. cond b (state_after m) (absorbed (state_after m) part)) e)

-- a run from the state of some bytes
run_end : (m : List ℕ) (parts : List (List ℕ)) (rs : List Answer) (s e : Md5) → s ≡ state_after m → length (m ++ joined parts) ≤ 2 ^ 48 → Run s parts rs e
    → AllPassed rs × (e ≡ state_after (m ++ joined parts))
unfolding joined refused_if
run_end m [] [] s e p h done = (none, p ∙ ap state_after (sym (append-nil m)))
run_end m [] (r ∷ rs) s e p h run = elim run [ ]
run_end m (part ∷ parts) [] s e p h run = elim run [ ]
run_end m (part ∷ parts) (r ∷ rs) s e p h (next {t = t} u run) =
    let fits : length m + length part ≤ 2 ^ 48 = omega (arith, simp length-append at h) in
    let one = below m part r t (subst (λ x. Updates x part r t) p u) fits in
    let all : m ++ part ++ joined parts ≡ m ++ (part ++ joined parts) = append_assoc m part (joined parts) in
    let rest = run_end (m ++ part) parts rs t e one.1 (rw all h) run in
    (more one.0 rest.0, rest.1 ∙ ap state_after all)

pub any-cutting : AnyCutting
unfolding refused_if
any-cutting parts rs e h run =
    let end = run_end [] parts rs fresh e fresh-is h run in
    record {
      passed = end.0;
      digest = ap finished end.1 ∙ state-end (joined parts);
      limit = λ part r t k u. let a = above (joined parts) part r t (subst (λ x. Updates x part r t) end.1 u) k in (a.0, a.1 ∙ sym end.1);
    }
