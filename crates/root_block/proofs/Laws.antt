-- Laws of a block: what fits, and what a block that is not cut holds.
use mathlib.Core.Path.{◌≡◌, refl, ap}
use mathlib.Core.Bool.{Bool, true, false, cond}
use mathlib.Core.List.{List}
use Prim.Native.Nat.{ℕ, ◌+◌, ◌*◌, ◌≤◌, ◌<◌, min}
use native.Mathlib.Nat.{mul-le-mul_left, mul-le-mul_right, mul-suc}
use native.Mathlib.Omega.{arith}
use lib.ListN.{length}
use borrow.Author.Tests.{lt-ltb, le-ltb, ltb-false}
use Rattle.parts.proofs.Laws.{part_at-inside}
use Rattle.refusal.specs.Check.{silent, refused}
use Rattle.refusal.specs.Number.{block_cut}
use Rattle.refusal.proofs.Laws.{said, quiet, first_said, skip, silent-test, first-left, first-right}
use Rattle.root_layout.specs.declared.Layout.{Layout}
use Rattle.root_layout.specs.Layout.{header_size}
use Rattle.root_block.specs.declared.Block.{Block}
use Rattle.root_block.specs.Ids.{ids_check}
use Rattle.root_block.specs.Block.{name_hash_size, block_of, block_has_hashes, hash_size, block_size, deltas_of, keys_at, key_at, hash_offset, block_check}

-- content flags of four or five bytes are read whole
pub content-whole : (wide : Bool) → min (cond wide 5 4) 8 ≡ cond wide 5 4
content-whole true = refl
content-whole false = refl

-- ---- the checks of a block

module _ (l : Layout) (b : List ℕ) (place : ℕ) where
  pub block-cut-short : length b < block_size l (block_of l b) → block_check l b place ≡ refused block_cut place
  unfolding block_check
  block-cut-short h = first_said _ (said refl (lt-ltb _ _ h))

  pub block-whole : block_size l (block_of l b) ≤ length b → block_check l b place ≡ ids_check (deltas_of l b) (block_of l b).count place
  unfolding block_check
  block-whole h = skip (quiet block_cut place refl (le-ltb _ _ h)) refl

  pub block-fits : block_check l b place ≡ silent → block_size l (block_of l b) ≤ length b
  unfolding block_check
  block-fits e = ltb-false _ _ (silent-test _ _ _ (first-left _ _ e))

  pub block-ids : block_check l b place ≡ silent → ids_check (deltas_of l b) (block_of l b).count place ≡ silent
  unfolding block_check
  block-ids e = first-right _ _ e

-- ---- a block that is not cut

module _ (l : Layout) (k : Block) where
  -- deltas and keys are a part of the block
  pub block-holds : header_size l + 20 * k.count ≤ block_size l k
  unfolding block_size
  block-holds =
      let more : 20 ≤ 20 + hash_size l k = omega arith in
      omega (arith, mul-le-mul_right k.count more)

pub deltas-length : (l : Layout) (b : List ℕ) → block_size l (block_of l b) ≤ length b → length (deltas_of l b) ≡ 4 * (block_of l b).count
unfolding deltas_of
deltas-length l b h =
    part_at-inside b (header_size l) (4 * (block_of l b).count) (omega (arith, h, block-holds l (block_of l b)))

-- a record's key is a part of the block, and so is its name hash where the block has them
module _ (l : Layout) (k : Block) (i : ℕ) (h : i < k.count) where
  stride : (t : Bool) (w : ℕ) → cond t (16 + w) 16 * i + 16 ≤ (16 + w) * k.count
  stride true w = omega (arith, mul-le-mul_left (16 + w) h, mul-suc (16 + w) i)
  stride false w =
      let more : 16 ≤ 16 + w = omega arith in
      omega (arith, mul-le-mul_right k.count more)

  pub key-inside : key_at l k i + 16 ≤ block_size l k
  unfolding key_at block_size
  key-inside = omega (arith, stride l.interleaved (hash_size l k))

  hashed : (t : Bool) (w : ℕ) → w ≡ 8
      → cond t (keys_at l k + cond t (16 + w) 16 * i + 16) (keys_at l k + 16 * k.count + 8 * i) + 8 ≤ header_size l + (20 + w) * k.count
  hashed true w e = rw e (omega arith)
  hashed false w e = rw e (omega arith)

  pub hash-inside : block_has_hashes l k ≡ true → hash_offset l k i + name_hash_size ≤ block_size l k
  unfolding hash_offset key_at block_size
  hash-inside e = hashed l.interleaved (hash_size l k) (ap (λ t. cond t name_hash_size 0) e)
