-- X4: in an index of no entries nothing is compared and nothing found.
use mathlib.Core.Path.{◌≡◌, refl, ◌∙◌}
use mathlib.Core.List.{List, [], ◌∷◌}
use Prim.Native.Nat.{ℕ, zero, suc}
use native.Mathlib.Nat.{zero-mul}
use native.Mathlib.Omega.{arith}
use Rattle.std.specs.declared.cmp.Ordering.{Ordering}
use Rattle.refusal.specs.Check.{silent}
use Rattle.refusal.specs.Outcome.{absent}
use Rattle.halving.specs.Halving.{halve, halving}
use Rattle.index_layout.specs.declared.Layout.{Layout}
use Rattle.index_layout.specs.Layout.{full, layout_of}
use Rattle.index_open.specs.Open.{opening}
use Rattle.index_open.proofs.Opened.{opened, entries-left}
use Rattle.index_lookup.specs.Lookup.{stored_in, page_halved, ended_from, ended, end_outcome}
use Rattle.index_lookup.proofs.Laws.{opened-lookup}
use Rattle.examples.specs.Examples.{NoEntries}

-- a lookup over no page
no-page : (s : List ℕ) (l : Layout) (pages : ℕ) (entries : ℕ → ℕ) (last : ℕ → Ordering) (key : ℕ → ℕ → Ordering) → pages ≡ 0
    → end_outcome s l (ended (record { pages = pages; entries = entries; last = last; key = key })) ≡ absent (0 ∷ 0 ∷ 0 ∷ 0 ∷ 0 ∷ [])
unfolding end_outcome ended ended_from page_halved halve halving
no-page s l zero entries last key e = refl
no-page s l (suc pages) entries last key e = absurd (omega arith)

-- no entries take no page
pages-none : (s : List ℕ) → opening s ≡ silent → (layout_of s).entries ≡ 0 → (layout_of s).pages ≡ 0
pages-none s e none = go (layout_of s).pages refl
  where
    go : (p : ℕ) → (layout_of s).pages ≡ p → p ≡ 0
    go zero g = refl
    go (suc p) g = absurd (omega (arith, entries-left s (opened s e) 0 (omega (arith, g)), zero-mul (full (layout_of s))))

pub no_entries : NoEntries
unfolding stored_in
no_entries s sought e none size = opened-lookup s sought e size ∙ no-page s (layout_of s) (layout_of s).pages _ _ _ (pages-none s e none)
