-- `parts::copy`: so many bytes are pasted as turns are done.
use mathlib.Core.Path.{◌≡◌, refl, sym}
use Prim.Native.Nat.{◌-◌, min}
use native.Mathlib.Numerals.{add-one}
use native.Mathlib.Omega.{arith}
use borrow.Author.Rules.{rules}
use lib.ListN.{length, length-set}
use lib.Seq.{paste-zero, paste-suc}
use Rattle.parts.proofs.Laws.{overlay-paste}
use Rattle.parts.proofs.copy.Goals as goal

pub loop-done-init : goal.loop-done-init
loop-done-init c = let a = c.args in (paste-zero a.to.now a.at a.from.now, refl)

pub loop-done-preserved : goal.loop-done-preserved
loop-done-preserved c =
    let a = c.args in
    let l = c.loop-done in (
      rw (l.invariant.0, add-one) (paste-suc a.to.now a.at a.from.now l.done 0 (search rules) (search rules)),
      simp length-set l.invariant.1,
    )

pub returns : goal.returns
returns c =
    let a = c.args in
    let l = c.loop-done in
    let all : l.done ≡ min (length a.from.now) (length a.to.now - a.at) = omega arith in
    rw (l.invariant.0, all) (sym (overlay-paste a.to.now a.at a.from.now))
