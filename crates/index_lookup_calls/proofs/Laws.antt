-- What a lookup after the full check tells.
use mathlib.Core.Path.{◌≡◌, refl, sym, ◌∙◌}
use mathlib.Core.List.{List, [], ◌∷◌}
use Prim.Native.Nat.{ℕ, ◌≤◌}
use lib.ListN.{length}
use borrow.Author.Tests.{eqb-true, not-false}
use Rattle.std.specs.Prelude.{Result, Ok, Err, IfOk}
use Rattle.refusal.specs.declared.Refusal.{Refusal}
use Rattle.refusal.specs.Check.{Check, silent, refused}
use Rattle.refusal.specs.Number.{index_key_length}
use Rattle.refusal.specs.Outcome.{refusal}
use Rattle.refusal.proofs.Laws.{silent-test, first-left, first_said, skip, after-said, after-quiet, answered-after}
use Rattle.index_layout.specs.Layout.{layout_of, full}
use Rattle.index_layout.proofs.Laws.{on-page-full}
use Rattle.index_open.specs.Open.{opening}
use Rattle.index.specs.Check.{full_check}
use Rattle.index_lookup.specs.Lookup.{stored_in, key_check, lookup_of, most_of, bound_of, bound_outcome}
use Rattle.index_agreement.specs.LookupAgrees.{comparisons}
use Rattle.index_agreement.proofs.Agreement.{ended-count}
use Rattle.index_agreement.proofs.LookupAgrees.{agrees}
use Rattle.index_lookup_calls.specs.Looked.{checked_lookup, checked_bound}

module _ (s sought : List ℕ) where
  -- a key of the index's length passes 10
  length-right : key_check (layout_of s) sought ≡ silent → length sought ≡ (layout_of s).key_length
  unfolding key_check
  length-right e = eqb-true _ _ (not-false _ (silent-test _ index_key_length 0 e))

  -- after a full check that passed
  module _ (passed : full_check s ≡ silent) where
    opened : opening s ≡ silent
    unfolding full_check
    opened = first-left (opening s) _ passed

    pub lookup-checked : lookup_of s sought ≡ checked_lookup s sought
    unfolding checked_lookup lookup_of
    lookup-checked = go (key_check (layout_of s) sought) refl
      where
        go : (k : Check) → key_check (layout_of s) sought ≡ k → lookup_of s sought ≡ checked_lookup s sought
        go silent e = (agrees s sought passed (length-right e)).answer ∙ sym (after-quiet _ (skip passed e))
        go (refused n p) e = after-said _ (skip opened e) ∙ sym (after-said _ (skip passed e))

    pub bound-checked : bound_of s ≡ checked_bound s
    unfolding bound_of checked_bound
    bound-checked = after-quiet _ opened ∙ sym (after-quiet _ passed)

  -- after one that refused
  module _ (n p : ℕ) (e : full_check s ≡ refused n p) where
    pub lookup-refused : refusal n p ≡ checked_lookup s sought
    unfolding checked_lookup
    lookup-refused = sym (after-said _ (first_said _ e))

    pub bound-refused : refusal n p ≡ checked_bound s
    unfolding checked_bound
    bound-refused = sym (after-said _ e)

  -- no more keys are compared than the bound that is told
  pub bound-told : (most : Result ℕ Refusal) → bound_outcome most ≡ checked_bound s → IfOk most (λ n. comparisons s sought ≤ n)
  unfolding checked_bound most_of stored_in
  bound-told (Ok n) told =
      let known = answered-after (full_check s) (n ∷ []) (most_of (layout_of s) ∷ []) told in
      let same : n ≡ most_of (layout_of s) = cc known.1 in
      rw same (ended-count (stored_in s (layout_of s) sought) (full (layout_of s)) (on-page-full (layout_of s)))
  bound-told (Err r) told = tt
