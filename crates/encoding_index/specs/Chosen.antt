-- The page of an encoding file s with header h that a lookup searches: rule E19.
use Rattle.std.specs.Prelude.{◌≡◌, Bool, cond, List, ℕ, zero, suc, ◌≤◌}
use Rattle.key.specs.Order.{compared, is_above}
use Rattle.encoding_header.specs.declared.Kind.{Kind}
use Rattle.encoding_header.specs.declared.Header.{Header}
use Rattle.encoding_header.specs.Header.{table_of, first_key_at}

-- The highest-numbered of n pages that is not above, as the number of pages up to it; 0 where all are above.
unfoldable pub up_to : (ℕ → Bool) → ℕ → ℕ
up_to above zero = 0
up_to above (suc i) = cond (above i) (up_to above i) (suc i)

-- Whether the stored first key of page i is above the sought one.
abbrev pub first_key_above : List ℕ → Header → Kind → List ℕ → ℕ → Bool
first_key_above s h kind sought i = is_above (compared (first_key_at s h kind i) sought)

-- The highest-numbered page whose first key is not above the sought one (rule E19).
unfoldable pub pages_up_to : List ℕ → Header → Kind → List ℕ → ℕ
pages_up_to s h kind sought = up_to (first_key_above s h kind sought) (table_of h kind).pages

-- The pages from one number up to another are above: what a private function ensures.
pub record Skipped (s : List ℕ) (h : Header) (kind : Kind) (sought : List ℕ) (from to : ℕ) : Type 0 where
  pub back : to ≤ from
  pub same : up_to (first_key_above s h kind sought) from ≡ up_to (first_key_above s h kind sought) to
