-- What the checks say of the pages of a kind in an encoding file that passes them.
use mathlib.Core.Path.{◌≡◌, refl}
use mathlib.Core.Bool.{Bool, true, false, not}
use mathlib.Core.List.{List}
use Prim.Native.Nat.{ℕ, ◌<◌}
use native.Mathlib.Nat.{zero-add}
use borrow.Author.Tests.{not-false}
use Rattle.refusal.specs.Check.{silent, refused_if}
use Rattle.refusal.specs.Number.{encoding_page_hash, entry_over_page, first_key, encoding_order, spec_number}
use Rattle.refusal.proofs.Laws.{first-left, first-right, silent-test, from_each}
use Rattle.encoding_header.specs.declared.Kind.{Kind}
use Rattle.encoding_header.specs.declared.Header.{Header}
use Rattle.encoding_header.specs.Header.{table_of, page_end, first_key_at}
use Rattle.encoding_page.specs.Entries.{key_at, rising, all, spec_known, starts_with, over_end, entries_of}
use Rattle.encoding.specs.Check.{key_before, specs_of, hash_right, entry_over, first_key_right, keys_rise, all_specs_known, check_in_order, page_check, pages_check}
use Rattle.encoding_agreement.proofs.Pages.{Pages}

-- What is found of a page of which none of 34 to 38 is told.
record Sound (hashed over starts rises known : Bool) : Type 0 where
  hash-right : hashed ≡ true
  within : over ≡ false
  starts-right : starts ≡ true
  order-right : rises ≡ true
  numbers-right : known ≡ true

sound : (i : ℕ) (hashed over starts rises known : Bool) → check_in_order i hashed over starts rises known ≡ silent → Sound hashed over starts rises known
sound i hashed over starts rises known e =
    let after-hash = first-right (refused_if (not hashed) encoding_page_hash i) _ e in
    let after-over = first-right (refused_if over entry_over_page i) _ after-hash in
    let after-first-key = first-right (refused_if (not starts) first_key i) _ after-over in
    record {
      hash-right = not-false _ (silent-test _ encoding_page_hash i (first-left _ _ e));
      within = silent-test _ entry_over_page i (first-left _ _ after-hash);
      starts-right = not-false _ (silent-test _ first_key i (first-left _ _ after-over));
      order-right = not-false _ (silent-test _ encoding_order i (first-left _ _ after-first-key));
      numbers-right = not-false _ (silent-test _ spec_number 0 (first-right (refused_if (not rises) encoding_order i) _ after-first-key));
    }

module _ (s : List ℕ) (h : Header) (kind : Kind) (passed : pages_check s h kind ≡ silent) where
  module _ (i : ℕ) (l : i < (table_of h kind).pages) where
    page-sound : Sound (hash_right s h kind i) (entry_over s h kind i) (first_key_right s h kind i) (keys_rise s h kind i) (all_specs_known s h kind i)
    unfolding pages_check page_check
    page-sound = sound i _ _ _ _ _ (rw zero-add at (from_each (page_check s h kind) 0 (table_of h kind).pages passed i l))

    pub not-over : over_end s kind (page_end h kind i) (entries_of s h kind i).end ≡ false
    unfolding entry_over
    not-over = page-sound.within

    starts : starts_with (key_at s h kind) (first_key_at s h kind i) (entries_of s h kind i).entries ≡ true
    unfolding first_key_right
    starts = page-sound.starts-right

    rises : rising (key_at s h kind) (key_before s h kind i) (entries_of s h kind i).entries ≡ true
    unfolding keys_rise
    rises = page-sound.order-right

    pub specs-known : all (spec_known s h kind (specs_of s h)) (entries_of s h kind i).entries ≡ true
    unfolding all_specs_known
    specs-known = page-sound.numbers-right

  pub pages : Pages (key_at s h kind) (λ i. (entries_of s h kind i).entries) (first_key_at s h kind) (key_before s h kind) (table_of h kind).pages
  unfolding key_before
  pages = record { starts = starts; rises = rises; next = λ i. refl }
