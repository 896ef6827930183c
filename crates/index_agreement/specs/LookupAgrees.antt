-- Demand 3: on any index that passes the full check and any key of its length, the lookup refuses nothing, finds exactly what
-- the plain reading finds, with the same page, slot, size and location, and tells the number of keys compared, which is that of
-- the halving rule and at most the bound: rules L11 and P3.
use Rattle.std.specs.Prelude.{◌≡◌, List, [], ◌∷◌, ℕ, ◌≤◌, length, Result, Ok}
use Rattle.refusal.specs.declared.Refusal.{Refusal}
use Rattle.refusal.specs.Outcome.{Outcome, answered}
use Rattle.index_layout.specs.declared.Layout.{Layout}
use Rattle.index_layout.specs.Layout.{layout_of}
use Rattle.index_open.specs.Open as checks
use Rattle.index.specs.Check.{check_outcome}
use Rattle.index_lookup.specs.declared.Answer.{Answer}
use Rattle.index_lookup.specs.Lookup.{stored_in, ended, lookup_of, most_of, bound_of, outcome, bound_outcome}
use Rattle.index_agreement.specs.Plain.{plain_reading, with_count}

-- The number of keys compared by the halving rule, on the last keys, then on a page's entries (rule L5).
abbrev pub comparisons : List ℕ → List ℕ → ℕ
comparisons s sought = (ended (stored_in s (layout_of s) sought)).count

-- What an outcome of a lookup in s must be.
pub record Agrees (s sought : List ℕ) (looked : Outcome) : Type 0 where
  -- Nothing is refused; it is found exactly where the plain reading finds, with the same page, slot, size and location, and
  -- absent exactly where the plain reading says so; the count is that of the halving rule.
  pub answer : looked ≡ with_count (plain_reading s sought) (comparisons s sought)
  -- At most the binary digits of P and of E, and 1 (rule L10).
  pub bound : comparisons s sought ≤ most_of (layout_of s)

-- Calls of the functions on an index and a key: what each answered, as its contract says, where the full check passed and the
-- key has the index's length.
pub record Calls (s sought : List ℕ) : Type 0 where
  -- `index::check` answered `checked`, `index_lookup::lookup` answered `looked` and `index_lookup::bound` answered `most`.
  pub checked : Result Layout Refusal
  pub looked : Result Answer Refusal
  pub most : Result ℕ Refusal
  pub check_ensures : checks.outcome checked ≡ check_outcome s
  pub lookup_ensures : outcome looked ≡ lookup_of s sought
  pub bound_ensures : bound_outcome most ≡ bound_of s
  -- The premises.
  pub layout : Layout
  pub passed : checked ≡ Ok layout
  pub key_length : length sought ≡ layout.key_length

-- The demand of these calls: the lookup's answer agrees, and the bound's answer is that bound (rule L11).
pub record LookupAgrees (s sought : List ℕ) (c : Calls s sought) : Type 0 where
  pub agrees : Agrees s sought (outcome c.looked)
  pub bounded : bound_outcome c.most ≡ answered (most_of (layout_of s) ∷ [])

-- The demand, of every index, every key and all calls on them. Proof: proofs/LookupAgrees.antt.
abbrev pub EveryLookupAgrees : Type 0
EveryLookupAgrees = (s sought : List ℕ) (c : Calls s sought) → LookupAgrees s sought c
