-- Laws of the opening checks.
use mathlib.Core.Path.{◌≡◌, refl, sym, ap, ap₂, ◌∙◌}
use mathlib.Core.Bool.{Bool, true, false, not}
use mathlib.Core.List.{List, [], ◌∷◌, ◌++◌}
use Prim.Native.Nat.{ℕ, zero, suc, ◌+◌, ◌-◌, ◌^◌, ◌≤◌, ◌<◌}
use native.Mathlib.Numerals.{add-one}
use native.Mathlib.Omega.{arith}
use lib.Dec.{ltb, eqb}
use lib.ListN.{length, take, drop, replicate, length-append}
use lib.Seq.{drop-cons}
use Rattle.numbers.specs.Number.{little_at}
use Rattle.md5_block.specs.declared.Words.{Words}
use Rattle.md5_block.specs.Block.{addends, word, words_of, block, whole}
use Rattle.md5_block.proofs.BlockLaws.{whole-one}
use Rattle.md5_end.specs.End.{little_bytes, padding, initial, digest_of}
use Rattle.md5_digest.specs.Message.{md5, limited}
use Rattle.parts.specs.Part.{byte_at, part_at, same_bytes}
use Rattle.parts.proofs.Laws.{part_at-inside}
use Rattle.refusal.specs.declared.Refusal.{Refusal}
use Rattle.refusal.specs.Check.{Check, silent, refused, refused_if, first, check_of}
use Rattle.refusal.specs.Outcome.{answered, after}
use Rattle.refusal.specs.Number.{entry_count, index_length, hash_limit}
use Rattle.refusal.proofs.Laws.{silent-test, said, quiet, skip, first-right, told-answer, told-refusal, never}
use Rattle.index_layout.specs.declared.Layout.{Layout}
use Rattle.std.specs.Prelude.{Result, Ok, Err, IsOk}
use Rattle.refusal.specs.Number.{number_of}
use Rattle.index_layout.specs.Layout.{footer_size, version_at, offset_width_at, entry_count_at, footer_hash_at, hash_length, most_entries}
use Rattle.index_layout.specs.Layout.{entry_count_of, count_check, index_length_of, layout_of}
use Rattle.index_open.specs.Open.{fields_check, hashed_footer, footer_hash_check, footer_check, footer_reading, opening, layout_values, outcome}
use borrow.Author.Tests.{le-ltb, ltb-false}

-- a message within the limit is hashed, never refused
pub is-hashed : {T : Type 0} (r : Result T Refusal) (n : ℕ) → n ≤ 2 ^ 48 → check_of r ≡ limited n → IsOk r
is-hashed (Ok x) n h e = refl
is-hashed (Err r) n h e = absurd (never (e ∙ quiet hash_limit 0 refl (le-ltb (2 ^ 48) n h)))

-- the n bytes from an offset on, one by one
unfoldable pub bytes_from : List ℕ → ℕ → ℕ → List ℕ
bytes_from s at zero = []
bytes_from s at (suc n) = byte_at s at ∷ bytes_from s (at + 1) n

pub part_bytes : (s : List ℕ) (at n : ℕ) → at + n ≤ length s → part_at s at n ≡ bytes_from s at n
unfolding bytes_from
part_bytes s at zero h = refl
part_bytes s at (suc n) h =
    let here : at < length s = omega arith in
    ap (take (suc n)) (drop-cons s at 0 here)
    ∙ ap (λ l. byte_at s at ∷ l) (ap (λ i. take n (drop i s)) (sym (add-one at)) ∙ part_bytes s (at + 1) n (omega arith))

word-is : (s : List ℕ) (at : ℕ) → little_at s at 4 ≡ word (bytes_from s at 4)
unfolding little_at word bytes_from
word-is s at = omega arith

-- the 20 bytes that the footer hash is of, and the words of their one block: three of the footer, and the same ones in every footer
module _ (f : List ℕ) (size : length f ≡ footer_size) where
  inside : version_at + (footer_hash_at - version_at) ≤ length f
  inside = omega arith

  pub hashed_length : length (hashed_footer f) ≡ 20
  hashed_length =
      length-append (part_at f version_at (footer_hash_at - version_at)) (replicate hash_length 0)
      ∙ ap (λ n. n + hash_length) (part_at-inside f version_at (footer_hash_at - version_at) inside)

  pub block-laid : {a b c : ℕ} → a ≡ little_at f version_at 4 → b ≡ little_at f offset_width_at 4 → c ≡ little_at f entry_count_at 4
      → a ∷ b ∷ c ∷ 0 ∷ 0 ∷ 128 ∷ 0 ∷ 0 ∷ 0 ∷ 0 ∷ 0 ∷ 0 ∷ 0 ∷ 0 ∷ 160 ∷ 0 ∷ [] ≡ words_of 16 (hashed_footer f ++ padding 20)
  unfolding word words_of padding little_bytes bytes_from
  block-laid p q r =
      rw (p, q, r, word-is f version_at, word-is f offset_width_at, word-is f entry_count_at)
      (ap (λ l. words_of 16 (l ++ replicate hash_length 0 ++ padding 20)) (sym (part_bytes f version_at (footer_hash_at - version_at) inside)))

-- 20 bytes and their padding are one block: the hash is that of its words
pub block-hashed : (m : List ℕ) {x k h : List ℕ} {v w : Words} → length m ≡ 20 → x ≡ words_of 16 (m ++ padding 20) → k ≡ addends → v ≡ initial
    → w ≡ block k x v → h ≡ take 8 (digest_of w) → h ≡ take 8 (md5 m)
unfolding md5 padding little_bytes
block-hashed m {w = w} size laid table start blocked told =
    let long : length (m ++ padding 20) ≡ 64 = length-append m (padding 20) ∙ ap (λ n. n + 44) size in
    let one : w ≡ whole addends (m ++ padding 20) initial = rw (blocked, table, start, laid) (sym (whole-one addends (m ++ padding 20) initial long)) in
    told ∙ ap (λ e. take 8 (digest_of e)) (one ∙ ap (λ n. whole addends (m ++ padding n) initial) (sym size))

-- a check told by its test
pub hash-told : (a b c d : List ℕ) (r : Bool) (number place : ℕ) → r ≡ same_bytes a b → a ≡ c → b ≡ d
    → refused_if (not (same_bytes c d)) number place ≡ refused_if (not r) number place
hash-told a b c d r number place e p q = ap (λ t. refused_if (not t) number place) (sym (e ∙ ap₂ same_bytes p q))

-- what the checks of the footer say of the entry count
pub count-within : (f : List ℕ) → footer_check f ≡ silent → entry_count_of f ≤ most_entries
count-within f e =
    ltb-false most_entries (entry_count_of f)
    (silent-test (ltb most_entries (entry_count_of f)) entry_count 0
    (first-right (footer_hash_check f) (count_check (entry_count_of f)) (first-right (fields_check f) (first (footer_hash_check f) (count_check (entry_count_of f))) e)))

-- a layout is its values
pub values_one : (l m : Layout) → layout_values l ≡ layout_values m → l ≡ m
unfolding layout_values
values_one l m e =
    let v : l.version ≡ m.version = cc in
    let o : l.offset_width ≡ m.offset_width = cc in
    let k : l.key_length ≡ m.key_length = cc in
    let n : l.entries ≡ m.entries = cc in
    let p : l.pages ≡ m.pages = cc in
    λ i. record { version = v i; offset_width = o i; key_length = k i; entries = n i; pages = p i }

-- a passed index: the check was silent, and the layout is the footer's
pub passed-index : (k : Check) (l m : Layout) (v : Result Layout Refusal) → outcome v ≡ after k (answered (layout_values m)) → v ≡ Ok l → (k ≡ silent) × (l ≡ m)
passed-index k l m v e g = let a = told-answer layout_values k (layout_values m) v e g in (a.0, values_one l m a.1)

pub refused-index : (k : Check) (m : Layout) (v : Result Layout Refusal) {r : Refusal} → outcome v ≡ after k (answered (layout_values m))
    → v ≡ Err r → k ≡ refused (number_of r.reason) r.place
refused-index k m v e g = told-refusal layout_values k (layout_values m) v e g

-- 5, where the checks before it pass
module _ (s : List ℕ) (l : Layout) (n : ℕ) (reading : footer_reading s ≡ silent) (e : l ≡ layout_of s) (told : n ≡ index_length_of l) where
  length-is : eqb (length s) n ≡ eqb (length s) (index_length_of (layout_of s))
  length-is = ap (eqb (length s)) (told ∙ ap index_length_of e)

  pub length-wrong : eqb (length s) n ≡ false → opening s ≡ refused index_length 0
  length-wrong h = skip reading (said refl (ap not (sym length-is ∙ h)))

  pub length-right : eqb (length s) n ≡ true → opening s ≡ silent
  length-right h = skip reading (quiet index_length 0 refl (ap not (sym length-is ∙ h)))
