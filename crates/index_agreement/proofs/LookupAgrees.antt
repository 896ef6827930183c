-- Demand 3, as specs/LookupAgrees.antt states it: of the definitions, then of what the functions answer.
use mathlib.Core.Path.{◌≡◌, ap, ◌∙◌, subst, sym}
use mathlib.Core.List.{List}
use Prim.Native.Nat.{ℕ}
use lib.ListN.{length}
use Rattle.refusal.specs.Check.{silent}
use Rattle.refusal.proofs.Laws.{first-left, first-right, after-quiet}
use Rattle.index_layout.specs.Layout.{full, layout_of}
use Rattle.index_layout.proofs.Laws.{on-page-full}
use Rattle.index_open.specs.Open.{opening}
use Rattle.index_open.proofs.Laws.{passed-index}
use Rattle.index_open.proofs.Opened.{opened, on-page-some}
use Rattle.index.specs.Check.{full_check}
use Rattle.index_lookup.specs.Lookup.{stored_in, ended, lookup_of, most_of, bound_of}
use Rattle.index_lookup.proofs.Laws.{opened-lookup}
use Rattle.index_agreement.specs.LookupAgrees.{Agrees, EveryLookupAgrees}
use Rattle.index_agreement.proofs.Agreement.{settled, ended-count}
use Rattle.index_agreement.proofs.Rising.{sorted}
use Rattle.index_agreement.proofs.Reading.{reads}

pub agrees : (s sought : List ℕ) → full_check s ≡ silent → length sought ≡ (layout_of s).key_length → Agrees s sought (lookup_of s sought)
unfolding full_check stored_in most_of
agrees s sought passed size =
    let l = layout_of s in
    let begun : opening s ≡ silent = first-left _ _ passed in
    let k = stored_in s l sought in
    let end = settled k (sorted s l (first-right _ _ passed) (on-page-some s (opened s begun)) sought) in
    record {
      answer = opened-lookup s sought begun size ∙ reads s sought (ended k) end;
      bound = ended-count k (full l) (on-page-full l);
    }

pub agreement : EveryLookupAgrees
unfolding full_check bound_of
agreement s sought c =
    let known = passed-index (full_check s) c.layout (layout_of s) c.checked c.check_ensures c.passed in
    let begun : opening s ≡ silent = first-left _ _ known.0 in
    let size : length sought ≡ (layout_of s).key_length = c.key_length ∙ ap (λ l. l.key_length) known.1 in
    record {
      agrees = subst (Agrees s sought) (sym c.lookup_ensures) (agrees s sought known.0 size);
      bounded = c.bound_ensures ∙ after-quiet _ begun;
    }
