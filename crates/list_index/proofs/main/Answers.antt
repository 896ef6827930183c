-- `list_index::main`: what is printed stands in the output.
use mathlib.Core.Path.{◌≡◌, sym, ap}
use mathlib.Core.List.{List}
use Prim.Native.Nat.{ℕ, ◌≤◌}
use native.Mathlib.Omega.{arith}
use lib.ListN.{length, drop, length-append}
use lib.Seq.{length-take-le}
use Rattle.refusal.specs.Check.{silent}
use Rattle.refusal.specs.Output.{filled}
use Rattle.list_index.proofs.main.Goals as goal

inside : (text out last : List ℕ) (n : ℕ) → n ≡ length text → last ≡ filled silent text out → n ≤ length last
unfolding filled
inside text out last n e f = omega (arith, ap length f, length-append text (drop (length text) out))

pub slice_bounds-output-end : goal.slice_bounds-output-end
slice_bounds-output-end c =
    let p = c.print-length in
    inside _ _ _ _ p.ensures.value p.ensures.output_after

pub slice_bounds-write_all-end : goal.slice_bounds-write_all-end
slice_bounds-write_all-end c =
    let p = c.print-length in
    sym (length-take-le p.result p.new.output (inside _ _ _ _ p.ensures.value p.ensures.output_after))
