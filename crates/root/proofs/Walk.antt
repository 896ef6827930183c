-- The walk over the blocks of a file under any layout: what holds of the blocks that are left holds on.
use mathlib.Core.Path.{◌≡◌, refl, sym, ap, ◌∙◌, subst}
use mathlib.Core.Bool.{Bool, true, false, cond}
use mathlib.Core.List.{List, [], ◌∷◌}
use Prim.Native.Nat.{ℕ, zero, suc, ◌+◌, ◌-◌, ◌≤◌, ◌<◌}
use native.Mathlib.Omega.{arith}
use lib.Dec.{ltb}
use lib.ListN.{length, drop}
use borrow.Author.Tests.{lt-ltb, le-ltb, ltb-true, ltb-false}
use Rattle.refusal.specs.Check.{silent, refused}
use Rattle.refusal.proofs.Laws.{first_said, first-quiet}
use Rattle.root_layout.specs.declared.Layout.{Layout}
use Rattle.root_layout.specs.Layout.{header_size}
use Rattle.root_block.specs.Block.{block_of, block_check}
use Rattle.root_block.proofs.Laws.{block-holds}
use Rattle.root.specs.Root.{size_at, blocks_from, blocks_after, blocks_by, BlocksRule, blocks_check}

header-some : (l : Layout) → 0 < header_size l
header-some l = omega arith

module _ (s : List ℕ) (l : Layout) where
  -- no block is empty
  pub size-some : (at : ℕ) → 0 < size_at s l at
  size-some at = omega (arith, header-some l, block-holds l (block_of l (drop at s)))

  -- ---- the rule without a bound

  ended : (at n : ℕ) → length s ≤ at → blocks_from s l at n ≡ []
  unfolding blocks_from
  ended at zero h = refl
  ended at (suc n) h = ap (λ t. cond t (at ∷ blocks_from s l (at + size_at s l at) n) []) (le-ltb at (length s) h)

  one : (at n : ℕ) → at < length s → blocks_from s l at (suc n) ≡ at ∷ blocks_from s l (at + size_at s l at) n
  unfolding blocks_from
  one at n h = ap (λ t. cond t (at ∷ blocks_from s l (at + size_at s l at) n) []) (lt-ltb at (length s) h)

  -- two bounds that are not reached give the same blocks
  both : (n m at : ℕ) → (at < length s → blocks_from s l (at + size_at s l at) n ≡ blocks_from s l (at + size_at s l at) m)
      → (t : Bool) → ltb at (length s) ≡ t → blocks_from s l at (suc n) ≡ blocks_from s l at (suc m)
  both n m at same true e =
      let h = ltb-true at (length s) e in
      one at n h ∙ ap (λ r. at ∷ r) (same h) ∙ sym (one at m h)
  both n m at same false e =
      let h = ltb-false at (length s) e in
      ended at (suc n) h ∙ sym (ended at (suc m) h)

  enough : (n m at : ℕ) → length s - at ≤ n → length s - at ≤ m → blocks_from s l at n ≡ blocks_from s l at m
  enough zero m at h k = ended at zero (omega arith) ∙ sym (ended at m (omega arith))
  enough (suc n) zero at h k = ended at (suc n) (omega arith) ∙ sym (ended at zero (omega arith))
  enough (suc n) (suc m) at h k =
      both n m at (λ less. enough n m (at + size_at s l at) (omega (arith, size-some at)) (omega (arith, size-some at))) (ltb at (length s)) refl

  pub blocks-rule : BlocksRule s l
  blocks-rule = record {
    none = λ at h. ended at (length s - at) h;
    next = λ at h.
        let some : length s - at ≡ suc (length s - at - 1) = omega arith in
        ap (blocks_from s l at) some
        ∙ one at (length s - at - 1) h
        ∙ ap (λ r. at ∷ r) (enough (length s - at - 1) (length s - (at + size_at s l at)) (at + size_at s l at) (omega (arith, size-some at)) (omega arith));
  }

-- ---- the walk

-- At a byte of the file where a block or the file's end is: P holds of the blocks from there on.
pub record Walk (s : List ℕ) (l : Layout) (P : List ℕ → Type 0) (at : ℕ) : Type 0 where
  pub here : P (blocks_after s l at)

module _ (s : List ℕ) (l : Layout) (P : List ℕ → Type 0) where
  pub walk_start : P (blocks_by s l) → Walk s l P l.start
  walk_start p = record { here = p }

  module _ (at : ℕ) where
    pub walk_here : at < length s → Walk s l P at → P (at ∷ blocks_after s l (at + size_at s l at))
    walk_here h w = subst P ((blocks-rule s l).next at h) w.here

    pub walk-next : at < length s → Walk s l P at → ((rest : List ℕ) → P (at ∷ rest) → P rest) → Walk s l P (at + size_at s l at)
    walk-next h w f = record { here = f _ (walk_here h w) }

    pub walk_end : length s ≤ at → Walk s l P at → P []
    walk_end h w = subst P ((blocks-rule s l).none at h) w.here

-- ---- the check

-- What the whole check says is what that of these blocks says.
abbrev pub Unchecked : List ℕ → Layout → List ℕ → Type 0
Unchecked s l rest = blocks_check s l (blocks_by s l) ≡ blocks_check s l rest

module _ (s : List ℕ) (l : Layout) (at : ℕ) (rest : List ℕ) where
  pub check-refused : {number place : ℕ} → Unchecked s l (at ∷ rest) → block_check l (drop at s) at ≡ refused number place
      → blocks_check s l (blocks_by s l) ≡ refused number place
  unfolding blocks_check
  check-refused p e = p ∙ first_said _ e

  pub check-passed : block_check l (drop at s) at ≡ silent → Unchecked s l (at ∷ rest) → Unchecked s l rest
  unfolding blocks_check
  check-passed e p = p ∙ first-quiet _ e

pub check-all : (s : List ℕ) (l : Layout) → Unchecked s l [] → blocks_check s l (blocks_by s l) ≡ silent
unfolding blocks_check
check-all s l p = p
