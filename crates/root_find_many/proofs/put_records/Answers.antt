-- `root_find_many::put_records`: the records of a block, one after the other.
use mathlib.Core.Path.{◌≡◌, sym, ap, ◌∙◌, subst}
use mathlib.Core.Bool.{true}
use Prim.Native.Nat.{ℕ, ◌+◌}
use native.Mathlib.Omega.{arith}
use lib.IntN.{ℤ, pos, nat_abs, ◌+ℤ◌}
use mir.Syntax.{w64}
use mir.Val.{to_z, of_z}
use lib.ListN.{drop}
use Rattle.root_block.specs.Block.{block_of, counts}
use Rattle.root_find_many.proofs.Laid.{kept-room}
use Rattle.root_find_many.proofs.Seen.{block-count, deltas-long, delta-of, key_of, key-whole}
use Rattle.root_find_many.proofs.Seen.{Passing, passing-none, passing-all, seen-fits, next_fits, id-fits, passing-next}
use Rattle.root_find_many.proofs.put_records.Goals as goal

pub loop-i-init : goal.loop-i-init
loop-i-init c =
    let a = c.args in
    passing-none a.file.now a.l a.at a.ids.now a.output.now

pub overflow_add-last : goal.overflow_add-last
overflow_add-last c =
    let b = c.requires.block_at in
    let d = c.delta_at-step in
    seen-fits c.loop-i.last-bits c.loop-i.invariant b.passes c.args.block.count (block-count b) c.loop-i-test.true d.result d.type_inv

pub overflow_add-last-in-loop-i : goal.overflow_add-last-in-loop-i
overflow_add-last-in-loop-i c =
    let b = c.requires.block_at in
    let d = c.delta_at-step in
    rw c.from.ensures (next_fits c.loop-i.last-bits c.loop-i.invariant b.passes c.args.block.count (block-count b) c.loop-i-test.true d.result d.type_inv)

pub overflow_add-at : goal.overflow_add-at
overflow_add-at c =
    let whole = key-whole c.requires.block_at c.loop-i.i c.key_at.result c.key_at.ensures.value c.loop-i-test.true in
    record { fits = omega (arith, whole, c.well_formed) }

pub overflow_cast-last : goal.overflow_cast-last
overflow_cast-last c =
    let b = c.requires.block_at in
    let l = c.loop-i in
    let d = c.delta_at-step in
    rw c.from.ensures
    (id-fits l.last-bits l.invariant b.passes c.args.block.count (block-count b) c.loop-i-test.true d.result d.type_inv (delta-of b l.i _ d.ensures))

pub put_record-guess-requires : goal.put_record-guess-requires
put_record-guess-requires c =
    let whole = key-whole c.requires.block_at c.loop-i.i c.key_at.result c.key_at.ensures.value c.loop-i-test.true in
    record { key_in_bounds = whole; rising = c.requires.rising; room = kept-room c.requires.room c.loop-i.invariant.kept }

-- the id that the code holds next
abbrev held_next : ℕ → ℤ → ℤ
held_next last r = to_z w64 (of_z w64 (to_z w64 (of_z w64 (to_z w64 last +ℤ pos 1)) +ℤ to_z w64 (of_z w64 r)))

pub loop-i-preserved : goal.loop-i-preserved
loop-i-preserved c =
    let a = c.args in
    let b = c.requires.block_at in
    let l = c.loop-i in
    let d = c.delta_at-step in
    let p = c.put_record-guess in
    subst (λ r. Passing a.file.now a.l a.at (l.i + 1) (held_next l.last-bits r) a.ids.now a.output.now p.new.output) (sym c.from.ensures)
    (passing-next l.last-bits l.invariant b.passes a.block.count (block-count b) c.loop-i-test.true d.result d.type_inv (delta-of b l.i _ d.ensures)
    _ _ _ (key_of b l.i _ c.key_at.ensures.value) (ap (λ r. nat_abs (held_next l.last-bits r)) c.from.ensures) p.ensures.kept p.ensures.turned.held)

pub shape_of-output : goal.shape_of-output
shape_of-output c = c.loop-i.invariant.kept.size

pub returns : goal.returns
returns c =
    let b = c.requires.block_at in
    let l = c.loop-i in
    let all : l.i ≡ (block_of c.args.l (drop c.args.at c.args.file.now)).count = omega (arith, block-count b) in
    let put = λ (locale unwanted : ℕ) (t : counts locale unwanted c.args.block ≡ true).
    passing-all l.invariant all locale unwanted (ap (counts locale unwanted) (sym b.header) ∙ t) in
    record { kept = l.invariant.kept; counted_put = record { put = put } }
