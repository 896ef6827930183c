-- The chain on three checked files that fit each other, as specs/Agreement.antt states it: link by link, from the last.
use mathlib.Core.Path.{◌≡◌, refl, sym, ap, ◌∙◌, subst}
use mathlib.Core.List.{List}
use Prim.Native.Nat.{ℕ, ◌≤◌}
use native.Mathlib.Nat.{add-zero, mul-le-mul_right}
use native.Mathlib.Omega.{arith}
use lib.ListN.{length, take}
use Rattle.parts.proofs.Laws.{part_at-inside, part-of-part}
use Rattle.refusal.specs.Outcome.{Outcome, answered, absent, refusal}
use Rattle.refusal.proofs.Laws.{passed_is, after-quiet}
use Rattle.root.specs.Root.{root_check}
use Rattle.root.specs.Lookup as root_file
use Rattle.root.specs.Lookup.{records, First, none, this, first_of, wanted, key_told, key_or}
use Rattle.root.proofs.First.{root_passed}
use Rattle.root_layout.specs.Header as root_header
use Rattle.encoding_header.specs.declared.Kind.TheVariants.{Content}
use Rattle.encoding_header.specs.declared.Header.{Header}
use Rattle.encoding_header.specs.Header.{header_of}
use Rattle.encoding.specs.Check as encoding_file
use Rattle.encoding_lookup.specs.Lookup.{run_at, run_length}
use Rattle.encoding_agreement.specs.Plain as pages
use Rattle.encoding_agreement.specs.Plain.{plain_told, content_values, plain_content}
use Rattle.encoding_agreement.proofs.Agreement.{content-agrees}
use Rattle.index_layout.specs.Layout.{layout_of}
use Rattle.index_open.proofs.Laws.{passed-index}
use Rattle.index.specs.Check as index_file
use Rattle.index_agreement.specs.Plain as entries
use Rattle.index_agreement.specs.Plain.{with_count}
use Rattle.index_agreement.proofs.LookupAgrees as agreement
use Rattle.chain.specs.declared.Link.{Link}
use Rattle.chain.specs.declared.Link.TheVariants.{Root, Encoding, Index}
use Rattle.chain.specs.Chain.{Told, found, refused_at, linked, content_key, encoding_key, index_told, encoding_told, resolve}
use Rattle.chain_agreement.specs.Plain.{plain_root, content_key_of, first_key_of, plain_index_told, plain_encoding_told, plain_resolve}
use Rattle.chain_agreement.specs.Agreement.{Fit, Agrees, Calls, ChainAgrees}
use Rattle.chain_agreement.proofs.Record.{found-whole}

-- what follows a link matters for the values that it answers alone
linked-same : (link : Link) (o : Outcome) (f g : List ℕ → Told) → ((values : List ℕ) → o ≡ answered values → f values ≡ g values)
    → linked link o f ≡ linked link o g
unfolding linked
linked-same link (answered values) f g h = h values refl
linked-same link (absent values) f g h = refl
linked-same link (refusal number place) f g h = refl

-- the values of a content entry that the plain reading finds
entry-values : (values : ℕ → List ℕ) (p : pages.Plain) (told : List ℕ) → plain_told values p ≡ answered told
    → (at : ℕ) × ((p ≡ pages.found at) × (told ≡ values at))
unfolding plain_told
entry-values values (pages.found at) told e = (at, (refl, cc))
entry-values values pages.nowhere told e = absurd (let z : ◌≡◌ {A = ℕ} 0 1 = cc in omega arith)

-- ---- no plain reading refuses

abbrev Unrefused : Told → Type 0
Unrefused tells = (link number place : ℕ) → tells ≡ refused_at link number place → ⊥

linked-unrefused : (link : Link) (o : Outcome) (f : List ℕ → Told) → ((number place : ℕ) → o ≡ refusal number place → ⊥)
    → ((values : List ℕ) → Unrefused (f values)) → Unrefused (linked link o f)
unfolding linked
linked-unrefused link (answered values) f h later = later values
linked-unrefused link (absent values) f h later = λ l number place e. let z : ◌≡◌ {A = ℕ} 0 1 = cc in omega arith
linked-unrefused link (refusal n p) f h later = absurd (h n p refl)

root-unrefused : (f : First) (number place : ℕ) → key_told f ≡ refusal number place → ⊥
unfolding key_told
root-unrefused none number place e = let z : ◌≡◌ {A = ℕ} 0 1 = cc in omega arith
root-unrefused (this r) number place e = let z : ◌≡◌ {A = ℕ} 0 1 = cc in omega arith

encoding-unrefused : (values : ℕ → List ℕ) (p : pages.Plain) (number place : ℕ) → plain_told values p ≡ refusal number place → ⊥
unfolding plain_told
encoding-unrefused values (pages.found at) number place e = let z : ◌≡◌ {A = ℕ} 0 1 = cc in omega arith
encoding-unrefused values pages.nowhere number place e = let z : ◌≡◌ {A = ℕ} 0 1 = cc in omega arith

index-unrefused : (p : entries.Plain) (count number place : ℕ) → with_count p count ≡ refusal number place → ⊥
unfolding with_count
index-unrefused (entries.found page slot size location) count number place e = let z : ◌≡◌ {A = ℕ} 0 1 = cc in omega arith
index-unrefused entries.absent count number place e = let z : ◌≡◌ {A = ℕ} 0 1 = cc in omega arith

plain-unrefused : (root encoding index : List ℕ) (id locale unwanted : ℕ) → Unrefused (plain_resolve root encoding index id locale unwanted)
unfolding plain_resolve plain_encoding_told plain_index_told plain_content
plain-unrefused root encoding index id locale unwanted =
    linked-unrefused Root _ _ (root-unrefused (first_of (wanted id locale unwanted) (records root)))
    (λ v. linked-unrefused Encoding _ _ (encoding-unrefused _ _)
    (λ w. linked-unrefused Index _ _ (index-unrefused _ _)
    (λ values link number place e. let z : ◌≡◌ {A = ℕ} 0 1 = cc in omega arith)))

-- ---- the links, from the last

module _ {root encoding index : List ℕ} (c : Fit root encoding index) where
  -- the index

  index_same : (key : List ℕ) → length key ≡ (layout_of index).key_length → index_told index key ≡ plain_index_told index key
  unfolding index_told plain_index_told
  index_same key size = ap (λ o. linked Index o found) (agreement.agrees index key c.index_passes size).answer

  -- the encoding file, then the index

  first_key : (key : List ℕ) → length key ≡ (header_of encoding).content.key_size → (values : List ℕ) → plain_content encoding key ≡ answered values
      → (encoding_key encoding key ≡ first_key_of encoding values) × (length (first_key_of encoding values) ≡ (layout_of index).key_length)
  unfolding plain_content content_values encoding_key
  first_key key size values e =
      let h : Header = header_of encoding in
      let entry = entry-values (content_values encoding h) (pages.plain_reading encoding Content key) values e in
      let at : ℕ = entry.0 in
      let run = (content-agrees encoding c.encoding_passes key size).run at entry.1.0 in
      let one : h.encoding.key_size ≤ run_length encoding h at = omega (arith, mul-le-mul_right h.encoding.key_size run.some) in
      rw entry.1.1 (
        ap (take h.encoding.key_size) run.part
            ∙ part-of-part encoding (run_at h at) (run_length encoding h at) 0 h.encoding.key_size (omega (arith, one)) ∙ rw add-zero,
        part_at-inside encoding (run_at h at) h.encoding.key_size (omega (arith, run.ends, run.inside, run.count)) ∙ c.encoding_keys,
      )

  encoding-same : (key : List ℕ) → length key ≡ (header_of encoding).content.key_size
      → encoding_told encoding index key ≡ plain_encoding_told encoding index key
  unfolding encoding_told plain_encoding_told
  encoding-same key size =
      ap (λ o. linked Encoding o (λ values. index_told index (encoding_key encoding key))) (content-agrees encoding c.encoding_passes key size).same
      ∙ linked-same Encoding (plain_content encoding key) _ _
      (λ values e. let first = first_key key size values e in
      ap (index_told index) first.0 ∙ index_same (first_key_of encoding values) first.1)

  -- the root file, then the others

  module _ (id locale unwanted : ℕ) where
    root-same : root_file.lookup_of root id locale unwanted ≡ plain_root root id locale unwanted
    unfolding root_file.lookup_of
    root-same = after-quiet _ c.root_passes

    content-key : (values : List ℕ) → plain_root root id locale unwanted ≡ answered values
        → (content_key root id locale unwanted ≡ content_key_of root values) × (length (content_key_of root values) ≡ (header_of encoding).content.key_size)
    unfolding content_key key_or
    content-key values e =
        let w = found-whole root (root_header.layout_of root) (wanted id locale unwanted) values _ (root_passed root _ c.root_passes refl) e in (
          ap (key_or root _) (root-same ∙ e ∙ ap answered w.is) ∙ ap (content_key_of root) (sym w.is),
          ap (λ v. length (content_key_of root v)) w.is ∙ part_at-inside root w.at _ w.inside ∙ sym c.content_keys,
        )

    chain_same : resolve root encoding index id locale unwanted ≡ plain_resolve root encoding index id locale unwanted
    unfolding resolve plain_resolve
    chain_same =
        ap (λ o. linked Root o (λ values. encoding_told encoding index (content_key root id locale unwanted))) root-same
        ∙ linked-same Root (plain_root root id locale unwanted) _ _
        (λ values e. let key = content-key values e in
        ap (encoding_told encoding index) key.0 ∙ encoding-same (content_key_of root values) key.1)

    pub agrees : Agrees root encoding index id locale unwanted (resolve root encoding index id locale unwanted)
    agrees = record {
      same = chain_same;
      unrefused = λ link number place e. plain-unrefused root encoding index id locale unwanted link number place (sym chain_same ∙ e);
    }

-- ---- the functions

pub chain-agrees : (root encoding index : List ℕ) (id locale unwanted : ℕ) (c : Calls root encoding index id locale unwanted)
    → ChainAgrees root encoding index id locale unwanted c
chain-agrees root encoding index id locale unwanted c =
    let known = passed-index (index_file.full_check index) c.layout (layout_of index) c.index_checked c.index_ensures c.index_passed in
    let fit : Fit root encoding index = record {
      root_passes = passed_is c.root_checked (root_check root) c.root_ensures c.root_passed;
      encoding_passes = passed_is c.encoding_checked (encoding_file.full_check encoding) c.encoding_ensures c.encoding_passed;
      index_passes = known.0;
      content_keys = c.content_keys;
      encoding_keys = c.encoding_keys ∙ ap (λ l. l.key_length) known.1;
    } in
    subst (Agrees root encoding index id locale unwanted) (sym c.resolve_ensures) (agrees fit id locale unwanted)
