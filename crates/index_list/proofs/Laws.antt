-- Laws of the list of an index.
use mathlib.Core.Path.{◌≡◌, sym, ap, ◌∙◌}
use mathlib.Core.List.{List}
use Prim.Native.Nat.{ℕ, ◌*◌}
use lib.ListN.{length}
use Rattle.index_layout.specs.declared.Layout.{Layout}
use Rattle.refusal.specs.Check.{silent}
use Rattle.refusal.specs.Outcome.{answered, after}
use Rattle.refusal.proofs.Laws.{first-left, answered-after}
use Rattle.index_layout.specs.Layout.{entry_size, layout_of}
use Rattle.index_open.specs.Open.{opening, layout_values}
use Rattle.index.specs.Check.{pages_check, full_check}
use Rattle.index_layout.specs.Entries.{entries_by, list_of}
use Rattle.index_open.proofs.Laws.{values_one}
use Rattle.index_open.proofs.Opened.{opened, list_length}

-- what a passed check says of the list
pub record Listable (s : List ℕ) (l : Layout) (size : ℕ) : Type 0 where
  pub quiet : full_check s ≡ silent
  pub bytes : l.entries * size ≡ length (list_of s)
  pub list : entries_by s l ≡ list_of s

pub passed-list : (s : List ℕ) (l : Layout) (size : ℕ) → answered (layout_values l) ≡ after (full_check s) (answered (layout_values (layout_of s)))
    → size ≡ entry_size l → Listable s l size
unfolding full_check
passed-list s l size e z =
    let i = answered-after (full_check s) _ _ e in
    let one = values_one l (layout_of s) i.1 in
    let o = opened s (first-left (opening s) (pages_check s (layout_of s)) i.0) in
    record {
      quiet = i.0;
      bytes = ap (λ n. l.entries * n) z ∙ ap (λ m. m.entries * entry_size m) one ∙ sym (list_length s o);
      list = ap (entries_by s) one;
    }
