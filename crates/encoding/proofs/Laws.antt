-- Laws of the checks of a page, and of the pages one after the other.
use mathlib.Core.Path.{◌≡◌, refl, sym, ap, ◌∙◌}
use mathlib.Core.List.{List}
use Prim.Native.Nat.{ℕ, ◌+◌, ◌-◌, ◌^◌, ◌≤◌, ◌<◌}
use native.Mathlib.Nat.{sub-zero}
use native.Mathlib.Numerals.{add-one}
use native.Mathlib.Omega.{arith}
use lib.ListN.{length}
use Rattle.parts.specs.Part.{same_bytes}
use Rattle.parts.proofs.Laws.{part_at-length}
use Rattle.md5_digest.specs.Message.{md5, limited}
use borrow.Author.Tests.{le-ltb}
use Rattle.std.specs.Prelude.{Result, Err}
use Rattle.refusal.specs.declared.Refusal.{Refusal}
use Rattle.refusal.specs.Check.{Check, silent, refused, first_from, check_of}
use Rattle.refusal.specs.Number.{hash_limit}
use Rattle.refusal.proofs.Laws.{quiet, upto-said, upto-quiet, upto-end, refused-is}
use Rattle.encoding_header.specs.declared.Kind.{Kind}
use Rattle.encoding_header.specs.declared.Header.{Header}
use Rattle.encoding_header.specs.Header.{table_of, page_size, page_offset, page_end, page_of, page_hash}
use Rattle.encoding_header.proofs.Bounds.{TypedHeader, page-most}
use Rattle.encoding_page.specs.declared.Span.{Span}
use Rattle.encoding_page.specs.declared.Walked.{Walked}
use Rattle.encoding_page.specs.Entries.{walk_from, key_at, rising, all, spec_known, over_end, span_of, key_span, last_span, entries_of}
use Rattle.encoding_page.proofs.Laws.{last-spanned}
use Rattle.encoding.specs.Check.{key_before, specs_of, hash_right, entry_over, first_key_right, keys_rise, all_specs_known, check_in_order, page_check, pages_check}

-- ---- one page

module _ (s : List ℕ) (h : Header) (kind : Kind) (i : ℕ) where
  -- what its entries tell is what the checks ask
  module _ (e from : ℕ) (p : e ≡ page_end h kind i) (q : from ≡ page_offset h kind i) (w : Walked) where
    pub page-judged : (hash before : List ℕ) (specs : ℕ) → w.end ≡ (walk_from s h kind e from).end
        → w.rises ≡ rising (key_at s h kind) before (walk_from s h kind e from).entries
        → w.specs_known ≡ all (spec_known s h kind specs) (walk_from s h kind e from).entries
        → hash ≡ md5 (page_of s h kind i) → before ≡ key_before s h kind i → specs ≡ specs_of s h
        → check_in_order i (same_bytes hash (page_hash s h kind i)) (over_end s kind (page_end h kind i) w.end)
        (first_key_right s h kind i) w.rises w.specs_known
        ≡ page_check s h kind i
    unfolding page_check hash_right entry_over keys_rise all_specs_known entries_of
    page-judged hash before specs ends order numbers m b n = rw (ends, order, numbers, p, q, m, b, n)

    pub key-after : (before : Span) → w.last ≡ last_span (key_span h kind) before (walk_from s h kind e from).entries
        → span_of s before ≡ key_before s h kind i → span_of s w.last ≡ key_before s h kind (i + 1)
    unfolding key_before entries_of
    key-after before last b =
        rw (add-one i) (ap (span_of s) last ∙ last-spanned s h kind before (walk_from s h kind e from).entries ∙ rw (p, q, b))

  -- hashing a page is not refused
  pub page-short : TypedHeader h → (page : List ℕ) → page ≡ page_of s h kind i → limited (length page) ≡ silent
  unfolding page_of
  page-short typed page e =
      let long = part_at-length s (page_offset h kind i) (page_size (table_of h kind)) in
      quiet hash_limit 0 refl (le-ltb (2 ^ 48) (length page) (omega (arith, ap length e, long, page-most typed kind)))

pub answered-hash : {T : Type 0} {k : Check} (v : Result T Refusal) {r : Refusal} → check_of v ≡ k → k ≡ silent → v ≡ Err r → ⊥
answered-hash v e short g = no-refusal (sym (refused-is v _ e g) ∙ short)
  where
    no-refusal : {number place : ℕ} → refused number place ≡ silent → ⊥
    no-refusal q = let z : ◌≡◌ {A = ℕ} 0 1 = cc in omega arith

-- ---- the pages of a kind

-- The pages before page i said nothing, and their last key is known.
pub record Checked (s : List ℕ) (h : Header) (kind : Kind) (i : ℕ) (last : Span) : Type 0 where
  pub key : span_of s last ≡ key_before s h kind i
  pub rest : pages_check s h kind ≡ first_from (page_check s h kind) i ((table_of h kind).pages - i)

module _ (s : List ℕ) (h : Header) (kind : Kind) where
  pub checked-none : (last : Span) → last.size ≡ 0 → Checked s h kind 0 last
  unfolding pages_check key_before
  checked-none last z = record { key = rw z; rest = rw sub-zero }

  module _ (i : ℕ) (last : Span) (c : Checked s h kind i last) where
    pub checked-said : {number place : ℕ} → i < (table_of h kind).pages → page_check s h kind i ≡ refused number place
        → pages_check s h kind ≡ refused number place
    checked-said l e = c.rest ∙ upto-said (page_check s h kind) i (table_of h kind).pages l e

    pub checked-next : (next : Span) → i < (table_of h kind).pages → page_check s h kind i ≡ silent → span_of s next ≡ key_before s h kind (i + 1)
        → Checked s h kind (i + 1) next
    checked-next next l e k = record { key = k; rest = c.rest ∙ upto-quiet (page_check s h kind) i (table_of h kind).pages l e }

    pub checked-all : (table_of h kind).pages ≤ i → pages_check s h kind ≡ silent
    checked-all l = c.rest ∙ upto-end (page_check s h kind) i (table_of h kind).pages l
