-- Where the parts after the pages begin, and laws of the footer.
use mathlib.Core.Path.{◌≡◌, refl, sym, ap, ap₂, ◌∙◌}
use mathlib.Core.List.{List, ◌++◌}
use Prim.Native.Nat.{ℕ, ◌+◌, ◌-◌, ◌*◌, ◌≤◌}
use native.Mathlib.Nat.{zero-mul, add-zero, mul-add}
use native.Mathlib.Omega.{arith}
use lib.ListN.{length, take, replicate}
use Rattle.parts.specs.Part.{overlay}
use Rattle.parts.proofs.Laws.{overlay-after}
use Rattle.index_layout.specs.declared.Layout.{Layout}
use Rattle.index_layout.specs.Layout.{page_size, footer_size, hash_length, version_at, footer_hash_at, page_offset, last_key_offset, page_hash_at, index_length_of}
use Rattle.index_layout.proofs.Laws.{bound}
use Rattle.md5_digest.specs.Message.{md5, digest_of, little_bytes}
use Rattle.index_footer.specs.Footer.{footer_at, contents_of, fields, hashed_fields, footer_with}

-- where the last keys, the page hashes and the footer begin
module _ (l : Layout) where
  pub keys-begin : last_key_offset l 0 ≡ page_offset l.pages
  unfolding last_key_offset
  keys-begin = ap (λ n. page_offset l.pages + n) (zero-mul l.key_length) ∙ add-zero _

  pub hashes-begin : page_hash_at l 0 ≡ page_offset l.pages + l.pages * l.key_length
  unfolding page_hash_at last_key_offset
  hashes-begin = ap (λ n. last_key_offset l l.pages + n) (zero-mul hash_length) ∙ add-zero _

  pub footer-begins : footer_at l ≡ last_key_offset l 0 + l.pages * (l.key_length + hash_length)
  unfolding page_hash_at last_key_offset
  footer-begins = omega (arith, keys-begin, mul-add l.pages l.key_length hash_length)

  pub index-ends : index_length_of l ≡ footer_at l + footer_size
  unfolding index_length_of page_hash_at last_key_offset
  index-ends = omega (arith, mul-add l.pages (page_size + l.key_length) hash_length, mul-add l.pages page_size l.key_length)

  -- the types of a layout keep it within its range
  pub footer-most : l.pages ≤ 4294967295 → l.key_length ≤ 255 → footer_at l ≤ 18721762438905
  footer-most p k =
      omega (arith, footer-begins, keys-begin, bound l.pages (l.key_length + hash_length) 4294967295 263 p (omega arith))

  pub contents-size : footer_at l - last_key_offset l 0 ≡ l.pages * (l.key_length + hash_length)
  contents-size = omega (arith, footer-begins)

-- the first eight bytes of a hash are eight
pub first-eight-length : (m : List ℕ) → length (take hash_length (md5 m)) ≡ hash_length
unfolding md5 digest_of little_bytes
first-eight-length m = refl

pub footer-length : (l : Layout) (contents : List ℕ) → length (footer_with l contents) ≡ footer_size
unfolding footer_with hashed_fields fields md5 digest_of little_bytes
footer-length l contents = refl

-- the footer hash takes the place of the zeros after the fields
pub fields_laid : (l : Layout) (unhashed hash laid : List ℕ) → unhashed ≡ fields l ++ replicate hash_length 0 → hash ≡ take hash_length (md5 unhashed)
    → laid ≡ overlay unhashed (footer_hash_at - version_at) hash → laid ≡ hashed_fields l
unfolding hashed_fields fields little_bytes overlay md5 digest_of
fields_laid l unhashed hash laid u h o = o ∙ ap₂ (λ s t. overlay s (footer_hash_at - version_at) t) u (h ∙ ap (λ s. take hash_length (md5 s)) u)

-- the contents hash, and the rest of the footer after it
pub footer-laid : (l : Layout) (out mid : List ℕ) → mid ≡ overlay out (footer_at l) (take hash_length (md5 (contents_of out l)))
    → overlay mid (footer_at l + version_at) (hashed_fields l) ≡ overlay out (footer_at l) (footer_with l (contents_of out l))
unfolding footer_with
footer-laid l out mid e =
    ap₂ (λ s n. overlay s (footer_at l + n) (hashed_fields l)) e (sym (first-eight-length (contents_of out l)))
    ∙ overlay-after out (footer_at l) (take hash_length (md5 (contents_of out l))) (hashed_fields l)
