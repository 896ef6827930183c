-- Laws of the lookup by path: the blocks that are searched, the name hashes and the ids of one block, and the first record found.
use mathlib.Core.Path.{◌≡◌, sym, ap, ap₂, ◌∙◌, subst}
use mathlib.Core.Bool.{Bool, true, false, ◌&&◌}
use mathlib.Core.List.{List, [], ◌∷◌, ◌++◌}
use Prim.Native.Nat.{ℕ, zero, suc, ◌+◌, ◌-◌, ◌*◌, ◌≤◌, ◌<◌}
use native.Mathlib.Nat.{add-zero, zero-add, sub-zero}
use native.Mathlib.Omega.{arith}
use lib.Dec.{eqb}
use lib.ListN.{length, drop}
use lib.Seq.{get_or-drop}
use borrow.Author.Tests.{eq-eqb, ne_eqb}
use Rattle.parts.specs.Part.{byte_at}
use Rattle.parts.proofs.Laws.{both}
use Rattle.numbers.specs.Number.{little_at}
use Rattle.numbers.proofs.Laws.{little_at-agree}
use Rattle.refusal.specs.Check.{silent}
use Rattle.refusal.specs.Outcome.{Outcome, answered}
use Rattle.refusal.proofs.Laws.{after-quiet}
use Rattle.root_layout.specs.declared.Layout.{Layout}
use Rattle.root_layout.specs.Header.{layout_of}
use Rattle.root_block.specs.declared.Block.{Block}
use Rattle.root_block.specs.Block.{block_of, block_has_hashes, hash_offset, counts}
use Rattle.root_block.proofs.Laws.{hash-inside}
use Rattle.root.specs.Root.{root_check}
use Rattle.root.specs.Lookup.{Record, record_at, records_from, records_by, first_of, this, key_at}
use Rattle.root.proofs.First.{not-wanted, is_wanted}
use Rattle.root_find_path.specs.Path.{is_searched, named, record_told, hash_lookup, key_or}
use Rattle.root_find_path.specs.Records.{Whole, FirstWith, hash_of}

-- ---- the eight bytes of a name hash

pub hash-is : (s : List ℕ) (at : ℕ) → byte_at s at + 256 * (byte_at s (at + 1) + 256 * (byte_at s (at + 2) + 256 * (byte_at s (at + 3)
    + 256 * (byte_at s (at + 4) + 256 * (byte_at s (at + 5) + 256 * (byte_at s (at + 6) + 256 * byte_at s (at + 7))))))) ≡ little_at s at 8
unfolding little_at
hash-is s at =
    let two : at + 1 + 1 ≡ at + 2 = omega arith in
    let three : at + 2 + 1 ≡ at + 3 = omega arith in
    let four : at + 3 + 1 ≡ at + 4 = omega arith in
    let five : at + 4 + 1 ≡ at + 5 = omega arith in
    let six : at + 5 + 1 ≡ at + 6 = omega arith in
    let seven : at + 6 + 1 ≡ at + 7 = omega arith in
    rw (two, three, four, five, six, seven) (omega arith)

-- ---- the records of one block

-- a record's name hash is a part of a whole block
pub hash-whole : {b : List ℕ} {l : Layout} {k : Block} → Whole b l k → (i at : ℕ) → i < k.count → at ≡ hash_offset l k i → at + 8 ≤ length b
hash-whole {l = l} {k = k} w i at h e = omega (arith, e, hash-inside l k i h w.hashes, w.fits)

-- of the same bytes under the same header
pub first-of : {b t : List ℕ} {l : Layout} {k m : Block} {hash r : ℕ} → b ≡ t → k ≡ m → FirstWith b l k hash r → FirstWith t l m hash r
first-of {t = t} {l = l} {k = k} {hash = hash} {r = r} p q f =
    subst (λ x. FirstWith t l x hash r) q (subst (λ x. FirstWith x l k hash r) p f)

-- ---- the first wanted record of one block

module _ (s : List ℕ) (l : Layout) (want : Record → Bool) (at : ℕ) where
  -- records in front that are not wanted
  skip-some : (m i n : ℕ) → m ≤ n → ((j : ℕ) → j < m → want (record_at s l at (i + j)) ≡ false)
      → (tail : List Record) → first_of want (records_from s l at i n ++ tail) ≡ first_of want (records_from s l at (i + m) (n - m) ++ tail)
  unfolding records_from
  skip-some zero i n h e tail = rw (add-zero i, sub-zero n)
  skip-some (suc m) i zero h e tail = absurd (omega arith)
  skip-some (suc m) i (suc n) h e tail =
      let next : suc i + m ≡ i + suc m = omega arith in
      let left : n - m ≡ suc n - suc m = omega arith in
      let head : want (record_at s l at i) ≡ false = subst (λ x. want (record_at s l at x) ≡ false) (add-zero i) (e 0 (omega arith)) in
      not-wanted want (record_at s l at i) _ head
      ∙ skip-some m (suc i) n (omega arith)
      (λ j b. let same : i + suc j ≡ suc i + j = omega arith in subst (λ x. want (record_at s l at x) ≡ false) same (e (suc j) (omega arith)))
      tail
      ∙ ap₂ (λ x y. first_of want (records_from s l at x y ++ tail)) next left

  module _ (r n : ℕ) (e : (j : ℕ) → j < r → want (record_at s l at j) ≡ false) where
    others : (j : ℕ) → j < r → want (record_at s l at (0 + j)) ≡ false
    others j h = subst (λ x. want (record_at s l at x) ≡ false) (sym (zero-add j)) (e j h)

    pub found_in : r < n → want (record_at s l at r) ≡ true → (tail : List Record) → first_of want (records_from s l at 0 n ++ tail) ≡ this (record_at s l at r)
    unfolding records_from
    found_in h w tail =
        let more : n - r ≡ suc (n - r - 1) = omega arith in
        skip-some r 0 n (omega arith) others tail
        ∙ ap₂ (λ x y. first_of want (records_from s l at x y ++ tail)) (zero-add r) more
        ∙ is_wanted want (record_at s l at r) _ w

    pub none_in : r ≡ n → (tail : List Record) → first_of want (records_from s l at 0 n ++ tail) ≡ first_of want tail
    unfolding records_from
    none_in h tail =
        let nothing : n - r ≡ 0 = omega arith in
        skip-some r 0 n (omega arith) others tail
        ∙ ap (λ y. first_of want (records_from s l at (0 + r) y ++ tail)) nothing

module _ (s : List ℕ) (l : Layout) (hash locale unwanted at : ℕ) where
  abbrev block_at : Block
  block_at = block_of l (drop at s)

  abbrev want : Record → Bool
  want = named l hash locale unwanted

  -- a name hash of the file is one of the block
  hash-there : (i : ℕ) → (record_at s l at i).hash ≡ hash_of (drop at s) l block_at i
  unfolding record_at
  hash-there i =
      little_at-agree s (drop at s) _ _ 8
      (λ j h. let sum : at + hash_offset l block_at i + j ≡ at + (hash_offset l block_at i + j) = omega arith in
      ap (byte_at s) sum ∙ sym (get_or-drop at s (hash_offset l block_at i + j) 0))

  -- no record of a block that is not searched is wanted
  pub unsearched : is_searched l locale unwanted block_at ≡ false → (i : ℕ) → want (record_at s l at i) ≡ false
  unfolding record_at named
  unsearched f i = ap (λ t. t && eqb (record_at s l at i).hash hash) f

  module _ (t : is_searched l locale unwanted block_at ≡ true) where
    hash-other : (i : ℕ) → (hash_of (drop at s) l block_at i ≡ hash → ⊥) → want (record_at s l at i) ≡ false
    unfolding record_at named
    hash-other i other = ap (λ b. b && eqb (record_at s l at i).hash hash) t ∙ ne_eqb _ hash (λ e. other (sym (hash-there i) ∙ e))

    hash-same : (i : ℕ) → hash_of (drop at s) l block_at i ≡ hash → want (record_at s l at i) ≡ true
    unfolding record_at named
    hash-same i same = ap (λ b. b && eqb (record_at s l at i).hash hash) t ∙ eq-eqb _ hash (hash-there i ∙ same)

    module _ {r : ℕ} (f : FirstWith (drop at s) l block_at hash r) where
      pub block-found : r < block_at.count → (tail : List Record)
          → first_of want (records_from s l at 0 block_at.count ++ tail) ≡ this (record_at s l at r)
      block-found h = found_in s l want at r block_at.count (λ j b. hash-other j (f.others j b)) h (hash-same r (f.here h))

      pub block_none : block_at.count ≤ r → (tail : List Record) → first_of want (records_from s l at 0 block_at.count ++ tail) ≡ first_of want tail
      block_none h = none_in s l want at r block_at.count (λ j b. hash-other j (f.others j b)) (omega (arith, f.bound))

-- a block that is searched has name hashes
pub searched-hashes : (l : Layout) (locale unwanted : ℕ) (k : Block) → is_searched l locale unwanted k ≡ true → block_has_hashes l k ≡ true
unfolding is_searched
searched-hashes l locale unwanted k t = (both (counts locale unwanted k) (block_has_hashes l k) t).1

-- ---- the whole lookup

pub looked : (s : List ℕ) (l : Layout) (hash locale unwanted : ℕ) (o : Outcome) → root_check s ≡ silent → l ≡ layout_of s
    → o ≡ record_told (first_of (named l hash locale unwanted) (records_by s l)) → o ≡ hash_lookup s hash locale unwanted
unfolding hash_lookup
looked s l hash locale unwanted o e g p =
    p ∙ ap (λ m. record_told (first_of (named m hash locale unwanted) (records_by s m))) g ∙ sym (after-quiet _ e)

-- where a key is found, the bytes beside it are the key, and no other bytes matter
pub key-found : (s key other : List ℕ) (id at : ℕ) (o : Outcome) → key ≡ key_at s at → answered (id ∷ at ∷ []) ≡ o → key ≡ key_or s other o
unfolding key_or
key-found s key other id at o k e = k ∙ ap (key_or s other) e
