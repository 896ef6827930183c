-- `index::pages::check_pages`: no check failed before page p.
use mathlib.Core.Path.{◌≡◌}
use Prim.Native.Nat.{◌-◌, ◌≤◌}
use Rattle.refusal.specs.Check.{first_from}
use Rattle.index.specs.Check.{page_check}
use Rattle.index.proofs.pages.check_pages.Given as goal

abbrev pub invariant-loop-p : goal.invariant-loop-p
invariant-loop-p l =
    (l.p ≤ l.pages) × (first_from (page_check l.index l.l) 0 l.pages ≡ first_from (page_check l.index l.l) l.p (l.pages - l.p))

abbrev pub decreases-loop-p : goal.decreases-loop-p
decreases-loop-p l = l.pages - l.p
